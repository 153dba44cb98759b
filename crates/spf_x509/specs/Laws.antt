-- The equality of bundles, bundle sets and contexts is an equivalence.
use Rattle.std.specs.Prelude.{ℕ, List}
use Rattle.std.specs.Cmp.{IsEquivalence, IsPartialEquivalence}
use Rattle.std.specs.Cmp.Lexicographic.{lists_equiv, nat_list_eq_equiv}
use Rattle.std.proofs.lemmas.Cmp.{on_equiv, and_equiv}
use Rattle.std.specs.Cmp as Cmp
use Rattle.spf_x509.specs.Bundle.{Bundle, bundle_eq, entry_eq, set_eq}
use Rattle.spf_x509.specs.Context.{Context, context_eq, svid_eq}
use Rattle.spf_x509.specs.contracts.svid.X509SvidEq.TheImpl.Laws as svid

pub bundle_equiv : IsEquivalence bundle_eq
bundle_equiv =
    and_equiv (on_equiv (λ (b : Bundle). b.domain) nat_list_eq_equiv)
    (on_equiv (λ (b : Bundle). b.authorities) (lists_equiv nat_list_eq_equiv))

pub bundle_per : IsPartialEquivalence bundle_eq
bundle_per = Cmp.partial_equiv_from_equiv bundle_equiv

entry_equiv : IsEquivalence entry_eq
entry_equiv =
    and_equiv (on_equiv (λ (e : List ℕ × Bundle). e.0) nat_list_eq_equiv)
    (on_equiv (λ (e : List ℕ × Bundle). e.1) bundle_equiv)

pub set_equiv : IsEquivalence set_eq
set_equiv = lists_equiv entry_equiv

pub set_per : IsPartialEquivalence set_eq
set_per = Cmp.partial_equiv_from_equiv set_equiv

svid_equiv : IsEquivalence svid_eq
svid_equiv = svid.laws-law

pub context_equiv : IsEquivalence context_eq
context_equiv = and_equiv (on_equiv (λ (c : Context). c.svids) (lists_equiv svid_equiv))
    (and_equiv (on_equiv (λ (c : Context). c.bundles) set_equiv)
    (on_equiv (λ (c : Context). c.crls) (lists_equiv nat_list_eq_equiv)))

pub context_per : IsPartialEquivalence context_eq
context_per = Cmp.partial_equiv_from_equiv context_equiv
