-- Material that is equal member by member is the same.
use Rattle.std.proofs.Common.{◌≡◌, ℕ, Bool, true, false, cond, ◌&&◌, List, [], ◌∷◌, Some, refl, ap}
use Rattle.std.proofs.Common.{◌∙◌, subst}
use Rattle.std.specs.Prelude.{nat_eq}
use Rattle.std.specs.Option.{option_eq, option_map, option_map_or}
use Rattle.std.specs.Cmp.Lexicographic.{pointwise}
use Rattle.spf_view.proofs.Known.{both_true}
use Rattle.spf_x509.specs.Bag.{take_out, same_bag}
use Rattle.spf_x509.specs.Bundle.{Bundle, bundle_eq, entry_eq, set_eq}
use Rattle.spf_x509.specs.Context.{context_eq, svid_eq}
use Rattle.spf_x509.specs.Svid.{Svid}
use Rattle.spf_feed.specs.Material.{Material, chosen_of, same_choice, same_svid, entry_same}
use Rattle.spf_feed.specs.Material.{same_set, same_material}
use Rattle.spf_feed.proofs.SameSvids.{by_fields}

-- lists that are equal one by one are equal as bags
bag_of_equal : {X : Type 0} (E : X → X → Bool) (xs ys : List X) → pointwise E xs ys ≡ true
    → same_bag E xs ys ≡ true
bag_of_equal E [] [] e = refl
bag_of_equal E [] (y ∷ ys) e = cc
bag_of_equal E (x ∷ xs) [] e = cc
bag_of_equal E (x ∷ xs) (y ∷ ys) e =
    let both = both_true (E x y) (pointwise E xs ys) e in
    ap (λ b. option_map_or (λ rest. same_bag E xs rest)
    (cond b (Some ys) (option_map (λ rest. y ∷ rest) (take_out E x ys))) false) both.0
    ∙ bag_of_equal E xs ys both.1

sets_of_equal : (xs ys : List (List ℕ × Bundle)) → set_eq xs ys ≡ true → same_set xs ys ≡ true
sets_of_equal [] [] e = refl
sets_of_equal [] (y ∷ ys) e = cc
sets_of_equal (x ∷ xs) [] e = cc
sets_of_equal (x ∷ xs) (y ∷ ys) e =
    let both = both_true (entry_eq x y) (pointwise entry_eq xs ys) e in
    let parts = both_true (pointwise nat_eq x.0 y.0) (bundle_eq x.1 y.1) both.0 in
    let inner =
    both_true (pointwise nat_eq x.1.domain y.1.domain)
    (pointwise (pointwise nat_eq) x.1.authorities y.1.authorities) parts.1 in
    let entry : entry_same x y ≡ true =
    ap (λ b. b && same_bag (pointwise nat_eq) x.1.authorities y.1.authorities) parts.0
    ∙ bag_of_equal (pointwise nat_eq) x.1.authorities y.1.authorities inner.1 in
    ap (λ b. b && same_set xs ys) entry ∙ sets_of_equal xs ys both.1

pub same_of_equal : (a b : Material) → option_eq same_choice (chosen_of a) (chosen_of b) ≡ true
    → context_eq a.context b.context ≡ true → same_material a b ≡ true
unfolding same_material
same_of_equal a b choice e =
    let both = both_true (pointwise svid_eq a.context.svids b.context.svids)
    (set_eq a.context.bundles b.context.bundles
    && pointwise (pointwise nat_eq) a.context.crls b.context.crls) e in
    let rest = both_true (set_eq a.context.bundles b.context.bundles)
    (pointwise (pointwise nat_eq) a.context.crls b.context.crls) both.1 in
    let svids : same_bag same_svid a.context.svids b.context.svids ≡ true =
    bag_of_equal same_svid a.context.svids b.context.svids
    (subst (λ (E : Svid → Svid → Bool). pointwise E a.context.svids b.context.svids ≡ true)
    by_fields both.0) in
    rw (
      choice,
      svids,
      sets_of_equal a.context.bundles b.context.bundles rest.0,
      bag_of_equal (pointwise nat_eq) a.context.crls b.context.crls rest.1,
    ) refl
