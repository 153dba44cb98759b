-- A rule that each member keeps, as a loop applies it.
use Rattle.std.proofs.Common.{◌≡◌, ℕ, ◌+◌, ◌<◌, List, ◌∷◌, drop, length, get_or, Result, Ok, Err}
use Rattle.std.proofs.Common.{refl, sym, ap, ◌∙◌}
use Rattle.std.proofs.lemmas.List.{drop_more}
use Rattle.spf_io.specs.Rule.{◌>>=◌, each}
use Rattle.spf_api.specs.Parsed.{kept_by_each}

abbrev ended : {E : Type 0} → Result (List (Unit {0})) E → Result (Unit {0}) E
ended r = r >>= λ kept. Ok tt

abbrev with_one : {E : Type 0} → Result (List (Unit {0})) E → Result (List (Unit {0})) E
with_one r = r >>= λ ys. Ok (tt ∷ ys)

same_end : {E : Type 0} (r : Result (List (Unit {0})) E) → ended (with_one r) ≡ ended r
same_end (Ok ys) = refl
same_end (Err e) = refl

-- what is left of the rule
abbrev pub KeptFrom : {A E : Type 0} → (A → Result (Unit {0}) E) → ℕ → List A → Type 0
KeptFrom rule i xs = kept_by_each rule (drop i xs) ≡ kept_by_each rule xs

next : {A : Type 0} (xs : List A) (i : ℕ) (x : A) → i < length xs → x ≡ get_or xs i x
    → drop i xs ≡ x ∷ drop (i + 1) xs
next {A} xs i x lt is = drop_more xs i x lt ∙ ap (λ (y : A). y ∷ drop (i + 1) xs) (sym is)

-- one more member keeps it
pub keeps : {A E : Type 0} (rule : A → Result (Unit {0}) E) (xs : List A) (i : ℕ) (x : A)
    → KeptFrom rule i xs → i < length xs → x ≡ get_or xs i x → rule x ≡ Ok tt
    → KeptFrom rule (i + 1) xs
keeps rule xs i x so_far lt is kept =
    sym (ap (kept_by_each rule) (next xs i x lt is)
    ∙ (rw kept (same_end (each rule (drop (i + 1) xs))))) ∙ so_far

-- a member breaks it
pub breaks : {A E : Type 0} (rule : A → Result (Unit {0}) E) (xs : List A) (i : ℕ) (x : A) (e : E)
    → KeptFrom rule i xs → i < length xs → x ≡ get_or xs i x → rule x ≡ Err e
    → kept_by_each rule xs ≡ Err e
breaks rule xs i x e so_far lt is broken =
    sym so_far ∙ ap (kept_by_each rule) (next xs i x lt is) ∙ rw broken refl
