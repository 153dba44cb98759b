-- A disk that stops: it lets a number of calls through, and fails each later one.
use Rattle.std.specs.Prelude.{◌≡◌, ℕ, zero, suc, Bool, true, false, Option, Some, None, Result}
use Rattle.std.specs.Prelude.{IsErr}

-- whether the next call goes through; where calls are not counted, each does
abbrev pub passes : Option ℕ → Bool
passes None = true
passes (Some zero) = false
passes (Some (suc left)) = true

-- the calls that are left after one more
abbrev pub one_less : Option ℕ → Option ℕ
one_less None = None
one_less (Some zero) = Some zero
one_less (Some (suc left)) = Some left

-- One call: it is counted, and it fails where none was left.
pub record Stops {T E : Type 0} (before after : Option ℕ) (result : Result T E) : Type 0 where
  pub counted : after ≡ one_less before
  pub fails : passes before ≡ false → IsErr result
