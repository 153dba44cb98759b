-- The equality of keys, bundles and bundle sets is an equivalence.
use Rattle.std.specs.Prelude.{ℕ, List}
use Rattle.std.specs.Cmp.{IsEquivalence, IsPartialEquivalence}
use Rattle.std.specs.Cmp.Lexicographic.{lists_equiv, nat_list_eq_equiv}
use Rattle.std.proofs.lemmas.Cmp.{on_equiv, and_equiv}
use Rattle.std.specs.Cmp as Cmp
use Rattle.spf_jwt.specs.Authority.{Authority}
use Rattle.spf_jwt.specs.Bundle.{Bundle, authority_eq, key_eq, bundle_eq, entry_eq, set_eq}

authority_equiv : IsEquivalence authority_eq
authority_equiv =
    and_equiv (on_equiv (λ (a : Authority). a.key_id) nat_list_eq_equiv)
    (on_equiv (λ (a : Authority). a.jwk) nat_list_eq_equiv)

key_equiv : IsEquivalence key_eq
key_equiv =
    and_equiv (on_equiv (λ (e : List ℕ × Authority). e.0) nat_list_eq_equiv)
    (on_equiv (λ (e : List ℕ × Authority). e.1) authority_equiv)

pub bundle_equiv : IsEquivalence bundle_eq
bundle_equiv =
    and_equiv (on_equiv (λ (b : Bundle). b.domain) nat_list_eq_equiv)
    (on_equiv (λ (b : Bundle). b.authorities) (lists_equiv key_equiv))

pub bundle_per : IsPartialEquivalence bundle_eq
bundle_per = Cmp.partial_equiv_from_equiv bundle_equiv

entry_equiv : IsEquivalence entry_eq
entry_equiv =
    and_equiv (on_equiv (λ (e : List ℕ × Bundle). e.0) nat_list_eq_equiv)
    (on_equiv (λ (e : List ℕ × Bundle). e.1) bundle_equiv)

pub set_equiv : IsEquivalence set_eq
set_equiv = lists_equiv entry_equiv

pub set_per : IsPartialEquivalence set_eq
set_per = Cmp.partial_equiv_from_equiv set_equiv
