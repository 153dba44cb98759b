use Rattle.std.proofs.Common.{refl}
use Rattle.std.proofs.lemmas.List.{nil_from_length}
use Rattle.spf_x509.proofs.Heads.{none_left}
use Rattle.spf_x509.proofs.chain.chain_with_leaf.Goals as goal

pub returns-in_ok-try_clone-in-Some : goal.returns-in_ok-try_clone-in-Some
returns-in_ok-try_clone-in-Some c =
    let none = none_left _ _ c.is_empty.ensures c.if-is_empty.true in
    let is = c.in-Some.ensures.cases.0 in
    let end = nil_from_length c.in-Some.rest.now none in
    rw (c.two.ensures, c.in_ok-try_clone-in-Some.ensures, c.in_ok-leaf.ensures, is, end) refl
