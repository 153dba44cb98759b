-- What a clock gives.
use Rattle.std.specs.Prelude.{◌≡◌, ℤ, pos, int_le, List, [], ◌∷◌, map, Option, None, Some}
use Rattle.std.specs.Prelude.{if◌then◌else◌}

-- a moment from 0 on; a negative one counts as none
abbrev pub moment_of : Option ℤ → Option ℤ
moment_of None = None
moment_of (Some seconds) = if int_le (pos 0) seconds then Some seconds else None

abbrev pub moments_of : List (Option ℤ) → List (Option ℤ)
moments_of moments = map moment_of moments

-- the next moment; none after the last
abbrev pub next_moment : List (Option ℤ) → Option ℤ
next_moment [] = None
next_moment (moment ∷ moments) = moment

abbrev pub later : List (Option ℤ) → List (Option ℤ)
later [] = []
later (moment ∷ moments) = moments

-- where the moments are known, the next one is given, and the others are left
abbrev pub IsTime : Option (List (Option ℤ)) → Option (List (Option ℤ)) → Option ℤ → Type 0
IsTime None new result = Unit {0}
IsTime (Some old) None result = ⊥
IsTime (Some old) (Some new) result = (result ≡ next_moment old) × (new ≡ later old)
