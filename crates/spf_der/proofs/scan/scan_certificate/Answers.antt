use Rattle.std.proofs.Common.{◌≡◌, ℕ, ℤ, ◌-◌, ◌<◌, List, Ok, length, take, refl, sym, subst, ap}
use Rattle.std.proofs.Common.{arith, rules, w64}
use mir.Val.{to_z, of_z}
use Rattle.std.proofs.lemmas.List.Elements.{All-from_get_or}
use Rattle.spf_der.specs.Grammar.{CertText}
use Rattle.spf_der.specs.Read.{certificate_rule}
use Rattle.spf_der.specs.Scan.{extensions_in, read_extensions}
use Rattle.spf_der.specs.declared.certificate.ExtensionPart.{ExtensionPart}
use Rattle.spf_der.proofs.Exact.{certificate_found}
use Rattle.spf_der.proofs.scan.scan_certificate.Goals as goal

pub returns-clause-text : goal.returns-clause-text
unfolding certificate_rule
returns-clause-text c =
    let octets =
    All-from_get_or (λ (b : ℕ). b < 256) c.args.der.now 0
    (λ i lt. omega (arith, c.type_inv.der i)) in
    let is = c.in_ok-found.ensures in
    let gives : certificate_rule c.args.der.now
    ≡ Ok (
      record { expiry = c.in-Some.expiry; extensions = is.0 },
      length c.args.der.now - length c.in-Some.rest.now,
    ) =
    rw (← c.in-Some.ensures.exact, is.1) refl in
    let expiry : to_z w64 (of_z w64 c.in-Some.expiry) ≡ c.in-Some.expiry = search rules in
    let extensions : extensions_in c.in-Some.extensions.now ≡ is.0 = ap read_extensions is.1 in
    let P : ℤ → List ExtensionPart → Type 0 =
    λ z es. CertText (take (length c.args.der.now - length c.in-Some.rest.now) c.args.der.now)
    (record { expiry = z; extensions = es }) in
    subst (λ (z : ℤ). P z (extensions_in c.in-Some.extensions.now)) (sym expiry)
    (subst (λ (es : List ExtensionPart). P c.in-Some.expiry es) (sym extensions)
    ((certificate_found c.args.der.now _ _ octets).0 gives).1)
