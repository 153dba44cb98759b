use Rattle.std.proofs.Common.{◌≡◌, ℕ, ℤ, ◌-◌, ◌<◌, Ok, length, map, take, refl, sym, subst, arith}
use Rattle.std.proofs.Common.{rules, w64}
use mir.Val.{to_z, of_z}
use Rattle.std.proofs.lemmas.List.Elements.{All-from_get_or}
use Rattle.spf_der.specs.Grammar.{CertText}
use Rattle.spf_der.specs.Part.{plain}
use Rattle.spf_der.specs.Read.{certificate_rule}
use Rattle.spf_der.proofs.Exact.{certificate_found}
use Rattle.spf_der.proofs.certificate.read_certificate_view.Goals as goal

pub returns-clause-size : goal.returns-clause-size
returns-clause-size c = (omega (arith, c.in-Some.ensures.front), omega arith)

pub returns-clause-text : goal.returns-clause-text
unfolding certificate_rule
returns-clause-text c =
    let octets =
    All-from_get_or (λ (b : ℕ). b < 256) c.args.der.now 0
    (λ i lt. omega (arith, c.type_inv.der i)) in
    let gives : certificate_rule c.args.der.now
    ≡ Ok (
      record {
        expiry = c.in-Some.expiry;
        extensions = map plain c.in_ok-extensions.extensions.items;
      },
      length c.args.der.now - length c.in-Some.rest.now,
    ) =
    rw (← c.in-Some.ensures.exact, c.in_ok-extensions.ensures) refl in
    let same : to_z w64 (of_z w64 c.in-Some.expiry) ≡ c.in-Some.expiry = search rules in
    let extensions = map plain c.in_ok-extensions.extensions.items in
    subst (λ (z : ℤ).
    CertText (take (length c.args.der.now - length c.in-Some.rest.now) c.args.der.now)
    (record { expiry = z; extensions = extensions })) (sym same)
    ((certificate_found c.args.der.now _ _ octets).0 gives).1
