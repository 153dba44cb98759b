-- How a list splits at each element that is chosen.
use Rattle.std.proofs.Common.{◌≡◌, ℕ, Bool, true, false, cond, List, [], ◌∷◌, refl, ap}
use Rattle.std.specs.List.{slice_split, onto_first}

-- a split has a first part
pub split_shape : (chosen : ℕ → Bool) (xs : List ℕ)
    → (s : List ℕ) × (ss : List (List ℕ)) × (slice_split chosen xs ≡ s ∷ ss)
split_shape chosen [] = ([], [], refl)
split_shape chosen (x ∷ xs) =
    let p = split_shape chosen xs in
    elim (chosen x) as (λ b. (s : List ℕ) × (ss : List (List ℕ))
    × (cond b ([] ∷ slice_split chosen xs) (onto_first x (slice_split chosen xs)) ≡ s ∷ ss))
    [ true ↦ ([], slice_split chosen xs, refl) | false ↦ (x ∷ p.0, p.1, ap (onto_first x) p.2) ]
