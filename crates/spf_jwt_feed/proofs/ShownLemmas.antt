-- Sets between which no change is seen are equal, and so they are shown alike.
use Rattle.std.proofs.Common.{◌≡◌, ℕ, Bool, true, List, [], ◌∷◌, refl, ap, sym, ◌∙◌}
use Rattle.std.specs.Prelude.{nat_eq}
use Rattle.std.specs.Cmp.Lexicographic.{pointwise, same_text}
use Rattle.spf_view.specs.Views.{View, Waiting, Withdrawn, Permitted}
use Rattle.spf_view.specs.Keeping.{SeenAs}
use Rattle.spf_view.proofs.Known.{both_true}
use Rattle.spf_feed.specs.declared.step.Denial.{Denial}
use Rattle.spf_jwt.specs.Authority.{Authority}
use Rattle.spf_jwt.specs.Bundle.{Bundle, authority_eq, key_eq, bundle_eq, entry_eq, set_eq}
use Rattle.spf_jwt_feed.specs.Shown.{shown_text, view_line}
use Rattle.spf_jwt_feed.specs.Steps.{BundleSet}

-- lists whose members are equal one by one are equal
lists_same : {X : Type 0} (E : X → X → Bool) → ((x y : X) → E x y ≡ true → x ≡ y)
    → (xs ys : List X) → pointwise E xs ys ≡ true → xs ≡ ys
lists_same E one [] [] e = refl
lists_same E one [] (y ∷ ys) e = absurd cc
lists_same E one (x ∷ xs) [] e = absurd cc
lists_same E one (x ∷ xs) (y ∷ ys) e =
    let both = both_true (E x y) (pointwise E xs ys) e in
    (λ i. one x y both.0 i ∷ lists_same E one xs ys both.1 i)

texts_same : (a b : List ℕ) → pointwise nat_eq a b ≡ true → a ≡ b
texts_same a b e = same_text a b (sym e)

authority_same : (a b : Authority) → authority_eq a b ≡ true → a ≡ b
authority_same a b e =
    let both = both_true (pointwise nat_eq a.key_id b.key_id) (pointwise nat_eq a.jwk b.jwk) e in
    (λ i. record {
      key_id = texts_same a.key_id b.key_id both.0 i;
      jwk = texts_same a.jwk b.jwk both.1 i;
    })

key_same : (p q : List ℕ × Authority) → key_eq p q ≡ true → p ≡ q
key_same p q e =
    let both = both_true (pointwise nat_eq p.0 q.0) (authority_eq p.1 q.1) e in
    (λ i. (texts_same p.0 q.0 both.0 i, authority_same p.1 q.1 both.1 i))

bundle_same : (a b : Bundle) → bundle_eq a b ≡ true → a ≡ b
bundle_same a b e =
    let both = both_true (pointwise nat_eq a.domain b.domain)
    (pointwise key_eq a.authorities b.authorities) e in
    (λ i. record {
      domain = texts_same a.domain b.domain both.0 i;
      authorities = lists_same key_eq key_same a.authorities b.authorities both.1 i;
    })

entry_alike : (p q : List ℕ × Bundle) → entry_eq p q ≡ true → p ≡ q
entry_alike p q e =
    let both = both_true (pointwise nat_eq p.0 q.0) (bundle_eq p.1 q.1) e in
    (λ i. (texts_same p.0 q.0 both.0 i, bundle_same p.1 q.1 both.1 i))

-- no change is seen only between equal sets
pub sets_same : (a b : BundleSet) → set_eq a b ≡ true → a ≡ b
sets_same a b e = lists_same entry_eq entry_alike a b e

-- before the first accepted item no revision is shown
pub waiting_text : (revision : ℕ) → shown_text Waiting revision ≡ shown_text Waiting 0
unfolding shown_text view_line
waiting_text revision = refl

-- a view that keeps the older set is shown as the latest one
pub shown_seen : (v w : View BundleSet Denial) (revision : ℕ) → SeenAs set_eq v w
    → shown_text v revision ≡ shown_text w revision
shown_seen Waiting w revision seen = absurd seen
shown_seen (Withdrawn d) w revision seen = ap (λ v. shown_text v revision) (sym seen)
shown_seen (Permitted m) w revision seen =
    ap (λ set. shown_text (Permitted set) revision) (sets_same m seen.0 seen.2)
    ∙ ap (λ v. shown_text v revision) (sym seen.1)
