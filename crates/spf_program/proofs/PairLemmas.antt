-- Arguments that are pairs of an option and its value, at their end.
use Rattle.std.proofs.Common.{◌≡◌, refl, ℕ, ◌<◌, ◌++◌, List, [], ◌∷◌, length, map, arith, Option}
use Rattle.std.proofs.Common.{None, Some, ◌==◌, Bool, Bor}
use Rattle.std.specs.Prelude.{◌||◌}
use Rattle.std.specs.List.{list_any}
use Rattle.std.specs.Str.{bytes_eq}
use Rattle.spf_program.specs.Pairs.{are_pairs, is_one_of, values_of, at_most_one}

pub any_is_one : (names : List (Bor (List ℕ))) (text : List ℕ)
    → list_any (λ n. bytes_eq n.now text) names ≡ is_one_of (map (λ n. n.now) names) text
any_is_one [] text = refl
any_is_one (name ∷ names) text = rw (any_is_one names text) refl

pub values_none : {X : Type 0} (f : X → List ℕ) (option : List ℕ) (arguments : List X)
    → length arguments < 2 → values_of option (map f arguments) ≡ []
values_none f option [] l = refl
values_none f option (x ∷ []) l = refl
values_none f option (x ∷ y ∷ arguments) l = absurd (omega (arith, l))

-- the value that was found so far, as a list
abbrev pub found_list : Option (List ℕ) → List (List ℕ)
found_list None = []
found_list (Some value) = value ∷ []

pub pairs_end : {X : Type 0} (f : X → List ℕ) (is_name : List ℕ → Bool) (arguments : List X)
    → length arguments < 2 → (length arguments == 0) ≡ are_pairs is_name (map f arguments)
pairs_end f is_name [] l = refl
pairs_end f is_name (x ∷ []) l = refl
pairs_end f is_name (x ∷ y ∷ arguments) l = absurd (omega (arith, l))

-- no further value
pub found_all : (found : Option (List ℕ)) → Some found ≡ at_most_one (found_list found ++ [])
found_all None = refl
found_all (Some value) = refl
