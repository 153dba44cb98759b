-- Arguments that are pairs of an option and its value.
use Rattle.std.specs.Prelude.{ℕ, Bool, true, false, ◌&&◌, ◌||◌, List, [], ◌∷◌, Option, None, Some}
use Rattle.std.specs.Prelude.{if◌then◌else◌}
use Rattle.std.specs.Str.{bytes_eq}
use Rattle.spf_io.specs.Option.{◌>>=◌}

-- a text is one of these names
abbrev pub is_one_of : List (List ℕ) → List ℕ → Bool
is_one_of [] text = false
is_one_of (name ∷ names) text = bytes_eq name text || is_one_of names text

-- the arguments are pairs of a name and a value
abbrev pub are_pairs : (List ℕ → Bool) → List (List ℕ) → Bool
are_pairs is_name [] = true
are_pairs is_name (name ∷ []) = false
are_pairs is_name (name ∷ value ∷ arguments) = is_name name && are_pairs is_name arguments

-- the values that pairs give to an option, in order
abbrev pub values_of : List ℕ → List (List ℕ) → List (List ℕ)
values_of option [] = []
values_of option (name ∷ []) = []
values_of option (name ∷ value ∷ arguments) =
    if bytes_eq name option then value ∷ values_of option arguments else values_of option arguments

-- the one value, if any; none where there are several
abbrev pub at_most_one : List (List ℕ) → Option (Option (List ℕ))
at_most_one [] = Some None
at_most_one (value ∷ []) = Some (Some value)
at_most_one (value ∷ next ∷ values) = None

-- what a value reads as; `absent` where there is no value
abbrev pub read_or : {A : Type 0} → (List ℕ → Option A) → A → Option (List ℕ) → Option A
read_or read absent None = Some absent
read_or read absent (Some value) = read value

-- what the pairs set an option to; `absent` where they do not
unfoldable pub option_in : {A : Type 0} → (List ℕ → Option A) → A → List ℕ → List (List ℕ)
    → Option A
option_in read absent option arguments =
    at_most_one (values_of option arguments) >>= read_or read absent
