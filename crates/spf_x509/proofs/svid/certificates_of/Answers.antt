use Rattle.std.proofs.Common.{refl}
use Rattle.std.proofs.lemmas.List.{nil_from_length}
use Rattle.spf_x509.proofs.Heads.{none_left}
use Rattle.spf_x509.proofs.svid.certificates_of.Goals as goal

pub returns-in_ok-certificate-in-Some : goal.returns-in_ok-certificate-in-Some
returns-in_ok-certificate-in-Some c =
    let none = none_left _ _ c.is_empty.ensures c.if-is_empty.true in
    let is = c.in-Some.ensures.cases.0 in
    let end = nil_from_length c.in-Some.rest.now none in
    rw (c.two.ensures, c.in_ok-certificate-in-Some.ensures, c.in_ok-first.ensures, is, end) refl

pub returns-in-Some-2 : goal.returns-in-Some-2
returns-in-Some-2 c = rw c.in_ok-first.ensures at c.listed_certificates.ensures
