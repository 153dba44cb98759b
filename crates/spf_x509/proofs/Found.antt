-- What is found in a bundle set once a bundle was added.
use Rattle.std.proofs.Common.{◌≡◌, ◌≢◌, ℕ, Bool, true, false, List, [], ◌∷◌, Some, refl, ap, ◌∙◌}
use Rattle.std.proofs.Common.{sym}
use Rattle.std.specs.declared.cmp.Ordering.{Ordering}
use Rattle.std.specs.declared.cmp.Ordering.TheVariants.{Less, Equal, Greater}
use Rattle.std.specs.Ordering.{match_ordering, nat_cmp, is_eq}
use Rattle.std.specs.Cmp.Lexicographic.{slice_cmp, texts_ties}
use Rattle.std.specs.Str.{bytes_eq}
use Rattle.spf_io.proofs.Exact.{bytes_exact}
use Rattle.spf_x509.specs.Bundle.{Bundle, KeepsOthers, with_entry, find_entry}

same_bytes : (k : List ℕ) → bytes_eq k k ≡ true
same_bytes k = (bytes_exact k k).1 refl

false_unless : {P : Type 0} (b : Bool) → (b ≡ true → P) → (P → ⊥) → b ≡ false
false_unless true says no_p = absurd (no_p (says refl))
false_unless false says no_p = refl

other_bytes : (j k : List ℕ) → j ≢ k → bytes_eq j k ≡ false
other_bytes j k apart = false_unless (bytes_eq j k) (bytes_exact j k).0 apart

found_step : {V : Type 0} (o : Ordering) (k : List ℕ) (e : List ℕ × V)
    (es others : List (List ℕ × V)) (v : V)
    → bytes_eq k k ≡ true → bytes_eq k e.0 ≡ is_eq o → find_entry k others ≡ Some v
    → find_entry k (match_ordering o ((k, v) ∷ e ∷ es) ((e.0, v) ∷ es) (e ∷ others)) ≡ Some v
found_step Less k e es others v same tied is = rw same refl
found_step Equal k e es others v same tied is = rw tied refl
found_step Greater k e es others v same tied is = rw tied is

-- it is found under its trust domain
pub found_there : {V : Type 0} (es : List (List ℕ × V)) (k : List ℕ) (v : V)
    → find_entry k (with_entry es k v) ≡ Some v
found_there [] k v = rw (same_bytes k) refl
found_there (e ∷ es) k v =
    found_step (slice_cmp nat_cmp k e.0) k e es (with_entry es k v) v (same_bytes k)
    (texts_ties k e.0) (found_there es k v)

others_step : {V : Type 0} (o : Ordering) (j k : List ℕ) (e : List ℕ × V)
    (es others : List (List ℕ × V)) (v : V)
    → bytes_eq j k ≡ false → (o ≡ Equal → bytes_eq j e.0 ≡ false)
    → find_entry j others ≡ find_entry j es
    → find_entry j (match_ordering o ((k, v) ∷ e ∷ es) ((e.0, v) ∷ es) (e ∷ others))
    ≡ find_entry j (e ∷ es)
others_step Less j k e es others v apart tied is = rw apart refl
others_step Equal j k e es others v apart tied is = rw (tied refl) refl
others_step Greater j k e es others v apart tied is = rw is refl

-- trust domains that compare as equal are the same
pub tie : (k l : List ℕ) → slice_cmp nat_cmp k l ≡ Equal → k ≡ l
tie k l equal = (bytes_exact k l).0 (texts_ties k l ∙ ap is_eq equal)

-- what is found under another trust domain stays
pub others_stay : {V : Type 0} (es : List (List ℕ × V)) (k : List ℕ) (v : V) (j : List ℕ) → j ≢ k
    → find_entry j (with_entry es k v) ≡ find_entry j es
others_stay [] k v j apart = rw (other_bytes j k apart) refl
others_stay (e ∷ es) k v j apart =
    others_step (slice_cmp nat_cmp k e.0) j k e es (with_entry es k v) v (other_bytes j k apart)
    (λ equal. other_bytes j e.0 (λ (is : j ≡ e.0). apart (is ∙ sym (tie k e.0 equal))))
    (others_stay es k v j apart)

-- a bundle that was put in is found under its trust domain
pub found_after : (old new : List (List ℕ × Bundle)) (k domain : List ℕ) (b : Bundle)
    → k ≡ domain → new ≡ with_entry old k b → find_entry domain new ≡ Some b
found_after old new k domain b key is = rw (is, ← key) (found_there old k b)

-- and the others stay
pub others_after : (old new : List (List ℕ × Bundle)) (k domain : List ℕ) (b : Bundle)
    → k ≡ domain → new ≡ with_entry old k b → KeepsOthers domain old new
others_after old new k domain b key is other apart =
    rw is (others_stay old k b other (λ (same : other ≡ k). apart (same ∙ key)))
