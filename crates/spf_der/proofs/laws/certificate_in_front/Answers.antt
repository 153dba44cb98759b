use Rattle.std.proofs.Common.{ℕ, ◌<◌, arith}
use Rattle.std.proofs.lemmas.List.Elements.{All-from_get_or}
use Rattle.spf_der.proofs.Exact.{answered, unanswered}
use Rattle.spf_der.proofs.laws.certificate_in_front.Goals as goal

pub returns-clause-found : goal.returns-clause-found
returns-clause-found c =
    let octets =
    All-from_get_or (λ (b : ℕ). b < 256) c.args.der.now 0
    (λ i lt. omega (arith, c.type_inv.der i)) in
    answered c.args.der.now c.read_certificate_view.result octets
    c.read_certificate_view.ensures.gives

pub returns-clause-refused : goal.returns-clause-refused
returns-clause-refused c =
    let octets =
    All-from_get_or (λ (b : ℕ). b < 256) c.args.der.now 0
    (λ i lt. omega (arith, c.type_inv.der i)) in
    unanswered c.args.der.now c.read_certificate_view.result octets
    c.read_certificate_view.ensures.gives
