-- Another member makes a difference: an SVID, a trust domain, an authority, a revocation list.
use Rattle.std.proofs.Common.{◌≡◌, ℕ, ◌+◌, Bool, true, false, cond, ◌&&◌, ◌||◌, List, [], ◌∷◌, ◌++◌}
use Rattle.std.proofs.Common.{Option, None, Some, refl, sym, ap, ◌∙◌, subst, arith}
use Rattle.std.specs.Prelude.{nat_eq}
use Rattle.std.specs.Cmp.{IsEquivalence}
use Rattle.std.specs.Cmp.Lexicographic.{pointwise, nat_list_eq_equiv}
use Rattle.std.specs.List.{list_any}
use Rattle.std.specs.Option.{option_eq}
use Rattle.std.specs.Str.{bytes_eq}
use Rattle.spf_io.proofs.Exact.{bytes_exact}
use Rattle.spf_x509.specs.Bag.{same_bag}
use Rattle.spf_x509.specs.Bundle.{Bundle, find_entry}
use Rattle.spf_x509.proofs.BagLemmas.{count, counted, counts_from_bag}
use Rattle.spf_feed.specs.Material.{Material, chosen_of, same_svid, same_choice, entry_same}
use Rattle.spf_feed.specs.Material.{same_set, same_material}
use Rattle.spf_feed.specs.Reordered.{HasAnother}
use Rattle.spf_feed.proofs.Alike.{svid_equiv}

either : (b c : Bool) → (b || c) ≡ false → (b ≡ false) × (c ≡ false)
either true c e = cc
either false c e = (refl, e)

both : (b c : Bool) → (b && c) ≡ true → (b ≡ true) × (c ≡ true)
both true c e = (refl, e)
both false c e = cc

-- a test that cannot be true is false
not_true : (b : Bool) → (b ≡ true → ⊥) → b ≡ false
not_true true h = absurd (h refl)
not_true false h = refl

-- ---- bags

count_none : {X : Type 0} (p : X → Bool) (xs : List X) → list_any p xs ≡ false → count p xs ≡ 0
count_none p [] e = refl
count_none p (x ∷ xs) e =
    let s = either (p x) (list_any p xs) e in
    let i = count_none p xs s.1 in
    let j : cond (p x) 1 0 + count p xs ≡ 0 + count p xs = ap (λ b. cond b 1 0 + count p xs) s.0 in
    omega (arith, i, j)

count_append : {X : Type 0} (p : X → Bool) (xs ys : List X)
    → count p (xs ++ ys) ≡ count p xs + count p ys
count_append p [] ys = let z : 0 + count p ys ≡ count p ys = omega arith in sym z
count_append p (x ∷ xs) ys = let i = count_append p xs ys in omega (arith, i)

pub bag_differs : {X : Type 0} (E : X → X → Bool) (o : IsEquivalence E) (xs ys : List X)
    → HasAnother E xs ys → same_bag E xs ys ≡ false
bag_differs {X} E o xs ys h = not_true (same_bag E xs ys) (λ e.
    let counts = (counts_from_bag E o xs ys e).each h.member in
    let none = count_none (E h.member) xs h.new in
    let there : count (E h.member) ys ≡ count (E h.member) (h.before ++ h.member ∷ h.after) =
    ap (count (E h.member)) h.there in
    let split = count_append (E h.member) h.before (h.member ∷ h.after) in
    let one = counted E h.member (count (E h.member) h.after) (o.refl h.member) in
    absurd (omega (arith, counts, none, there, split, one)))

-- ---- bundle sets

-- what is found in sets that are the same
SameFound : Option Bundle → Option Bundle → Type 0
SameFound None None = Unit {0}
SameFound None (Some q) = ⊥
SameFound (Some p) None = ⊥
SameFound (Some p) (Some q) = same_bag (pointwise nat_eq) p.authorities q.authorities ≡ true

found_same : (domain : List ℕ) (xs ys : List (List ℕ × Bundle)) → same_set xs ys ≡ true
    → SameFound (find_entry domain xs) (find_entry domain ys)
unfolding SameFound
found_same domain [] [] e = tt
found_same domain [] (y ∷ ys) e = cc
found_same domain (x ∷ xs) [] e = cc
found_same domain (x ∷ xs) (y ∷ ys) e =
    let p = both (entry_same x y) (same_set xs ys) e in
    let q = both (pointwise nat_eq x.0 y.0)
    (same_bag (pointwise nat_eq) x.1.authorities y.1.authorities) p.0 in
    let d : x.0 ≡ y.0 = (bytes_exact x.0 y.0).0 q.0 in
    subst (λ (b : Bool).
    SameFound (cond b (Some x.1) (find_entry domain xs))
    (cond (bytes_eq domain y.0) (Some y.1) (find_entry domain ys))) (ap (bytes_eq domain) (sym d))
    (at (bytes_eq domain y.0) q.1 (found_same domain xs ys p.1))
  where
    at : (b : Bool) → same_bag (pointwise nat_eq) x.1.authorities y.1.authorities ≡ true
        → SameFound (find_entry domain xs) (find_entry domain ys)
        → SameFound (cond b (Some x.1) (find_entry domain xs))
        (cond b (Some y.1) (find_entry domain ys))
    at true same found = same
    at false same found = found

-- ---- material

svids_in_same : (a b : Material) → same_material a b ≡ true
    → same_bag same_svid a.context.svids b.context.svids ≡ true
unfolding same_material
svids_in_same a b e =
    (both (same_bag same_svid a.context.svids b.context.svids) _
    (both (option_eq same_choice (chosen_of a) (chosen_of b)) _ e).1).0

sets_in_same : (a b : Material) → same_material a b ≡ true
    → same_set a.context.bundles b.context.bundles ≡ true
unfolding same_material
sets_in_same a b e =
    (both (same_set a.context.bundles b.context.bundles) _
    (both (same_bag same_svid a.context.svids b.context.svids) _
    (both (option_eq same_choice (chosen_of a) (chosen_of b)) _ e).1).1).0

crls_in_same : (a b : Material) → same_material a b ≡ true
    → same_bag (pointwise nat_eq) a.context.crls b.context.crls ≡ true
unfolding same_material
crls_in_same a b e =
    (both (same_set a.context.bundles b.context.bundles) _
    (both (same_bag same_svid a.context.svids b.context.svids) _
    (both (option_eq same_choice (chosen_of a) (chosen_of b)) _ e).1).1).1

not_both : (b : Bool) → b ≡ true → b ≡ false → ⊥
not_both b t f = let e : true ≡ false = sym t ∙ f in cc

pub svid_differs : (a b : Material) → HasAnother same_svid a.context.svids b.context.svids
    → same_material a b ≡ false
svid_differs a b h =
    not_true (same_material a b)
    (λ e. not_both _ (svids_in_same a b e)
    (bag_differs same_svid svid_equiv a.context.svids b.context.svids h))

pub crl_differs : (a b : Material) → HasAnother (pointwise nat_eq) a.context.crls b.context.crls
    → same_material a b ≡ false
crl_differs a b h =
    not_true (same_material a b)
    (λ e. not_both _ (crls_in_same a b e)
    (bag_differs (pointwise nat_eq) nat_list_eq_equiv a.context.crls b.context.crls h))

pub domain_differs : (a b : Material) (domain : List ℕ) (q : Bundle)
    → find_entry domain a.context.bundles ≡ None → find_entry domain b.context.bundles ≡ Some q
    → same_material a b ≡ false
unfolding SameFound
domain_differs a b domain q none some = not_true (same_material a b) (λ e.
    let found = found_same domain a.context.bundles b.context.bundles (sets_in_same a b e) in
    let second =
    subst (λ (o : Option Bundle). SameFound (find_entry domain a.context.bundles) o) some found in
    subst (λ (o : Option Bundle). SameFound o (Some q)) none second)

pub authority_differs : (a b : Material) (domain : List ℕ) (p q : Bundle)
    → find_entry domain a.context.bundles ≡ Some p → find_entry domain b.context.bundles ≡ Some q
    → HasAnother (pointwise nat_eq) p.authorities q.authorities → same_material a b ≡ false
unfolding SameFound
authority_differs a b domain p q first second h = not_true (same_material a b) (λ e.
    let found = found_same domain a.context.bundles b.context.bundles (sets_in_same a b e) in
    let at_second =
    subst (λ (o : Option Bundle). SameFound (find_entry domain a.context.bundles) o) second found in
    let same = subst (λ (o : Option Bundle). SameFound o (Some q)) first at_second in
    not_both _ same
    (bag_differs (pointwise nat_eq) nat_list_eq_equiv p.authorities q.authorities h))
