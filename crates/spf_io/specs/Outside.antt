-- What sources and sinks give and take, as far as
-- their bytes are known, and how failures are counted.
use Rattle.std.specs.Prelude.{◌≡◌, ℕ, ◌-◌, ◌^◌, ◌<◌, ◌≤◌, ◌⊎◌, List, take, Option, Result}
use Rattle.std.specs.Prelude.{MatchResult, IsErr}
use Rattle.std.specs.Io.KnownBytes.{Appends}

-- a count rose: it is greater than before, or the greatest of its type
abbrev pub Rose : ℕ → ℕ → Type 0
Rose before now = (before < now) ⊎ (now ≡ 2 ^ 64 - 1)

-- the count never falls, and a call fails only where it rose
pub record HasCause {T E : Type 0} (before now : ℕ) (result : Result T E) : Type 0 where
  pub later : before ≤ now
  pub failed : IsErr result → Rose before now

-- a put appends the piece, and a failed one a prefix of it
abbrev pub PutAppends : {T E : Type 0} → Option (List ℕ) → Option (List ℕ) → Result T E → List ℕ
    → Type 0
PutAppends old new r piece =
    MatchResult r (λ _. Appends old new piece) (λ _. (n : ℕ) × Appends old new (take n piece))
