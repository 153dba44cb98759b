-- The argument of the program: a moment.
use Rattle.std.specs.Prelude.{ℕ, ℤ, List, [], ◌∷◌, Option, None}
use Rattle.spf_program.specs.Numbers.{moment_in}

-- the moment that the arguments say: exactly one number
abbrev pub start_in : List (List ℕ) → Option ℤ
start_in (text ∷ []) = moment_in text
start_in _ = None
