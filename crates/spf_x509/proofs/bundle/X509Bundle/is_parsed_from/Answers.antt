use Rattle.std.proofs.Common.{◌≡◌, ℕ, ◌<◌, Ok, sym, subst, arith}
use Rattle.std.specs.Bool.{IsTrue}
use Rattle.std.proofs.lemmas.List.Elements.{All-from_get_or}
use Rattle.spf_io.proofs.Exact.{bytes_exact}
use Rattle.spf_der.specs.Grammar.{CertsOf}
use Rattle.spf_x509.specs.Bundle.{Bundle}
use Rattle.spf_x509.specs.BundleRule.{bundle_of}
use Rattle.spf_x509.specs.Chain.{authorities_rule}
use Rattle.spf_x509.proofs.Cuts.{bundle_exact}
use Rattle.spf_x509.proofs.bundle.X509Bundle.is_parsed_from.Goals as goal

pub returns-then-eq : goal.returns-then-eq
returns-then-eq c =
    let der = c.args.der.now in
    let octets =
    All-from_get_or (λ (b : ℕ). b < 256) der 0 (λ i lt. omega (arith, c.type_inv.der i)) in
    let domain : c.args.trust_domain.now ≡ c.self.inside.trust_domain =
    (bytes_exact _ _).0 (sym c.if-eq.ensures) in
    let exact =
    bundle_exact c.args.trust_domain.now der
    (record { domain = c.self.inside.trust_domain; authorities = c.self.inside.authorities })
    octets in
    let value = c.as_slice.ensures in
    let P : Bundle → Type 0 =
    λ b. (IsTrue c.is_concatenation.result
    → bundle_of c.args.trust_domain.now (authorities_rule der) ≡ Ok b)
    × (bundle_of c.args.trust_domain.now (authorities_rule der) ≡ Ok b
    → IsTrue c.is_concatenation.result) in
    subst P c.self.view_is (
      λ yes. exact.0 (domain, subst (CertsOf der) value (c.is_concatenation.ensures.0 yes)),
      λ is. c.is_concatenation.ensures.1 (subst (CertsOf der) (sym value) (exact.1 is).1),
    )
