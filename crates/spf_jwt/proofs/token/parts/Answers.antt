use Rattle.std.proofs.Common.{◌∙◌, rules}
use Rattle.spf_jwt.proofs.Signature.{one_part, two_parts, three_of}
use Rattle.spf_jwt.proofs.token.parts.Goals as goal

pub returns-in_default : goal.returns-in_default
returns-in_default c =
    one_part c.args.token.now (rw c.in_default.is at c.cut.ensures)

pub returns-in_default-cut : goal.returns-in_default-cut
returns-in_default-cut c =
    let one = rw c.in-Some.is at c.cut.ensures in
    two_parts c.args.token.now c.in-Some.rest.now one.0 one.2
    (rw c.in_default-cut.is at c.cut-2.ensures)

pub returns-then-not-can_sign : goal.returns-then-not-can_sign
returns-then-not-can_sign c =
    let one = rw c.in-Some.is at c.cut.ensures in
    let two = rw c.in-Some-cut.is at c.cut-2.ensures in
    three_of c.args.token.now c.in-Some.header.now c.in-Some.rest.now c.in-Some-cut.claims.now
    c.in-Some-cut.signature.now one.0 one.1 one.2 two.0 two.1 two.2
    ∙ search rules

pub returns : goal.returns
returns c =
    let one = rw c.in-Some.is at c.cut.ensures in
    let two = rw c.in-Some-cut.is at c.cut-2.ensures in
    three_of c.args.token.now c.in-Some.header.now c.in-Some.rest.now c.in-Some-cut.claims.now
    c.in-Some-cut.signature.now one.0 one.1 one.2 two.0 two.1 two.2
    ∙ search rules
