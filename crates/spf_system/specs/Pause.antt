-- What pauses leave.
use Rattle.std.specs.Prelude.{◌≡◌, ℕ, List, [], ◌∷◌, ◌++◌, take, Option, None, Some}
use Rattle.std.specs.declared.time.Duration.{Duration}

-- a double: the first delays, and how many of them are kept
pub record KeptDelays : Type 0 where
  pub delays : List Duration
  pub room : ℕ

-- the delays with one more, of which the first are kept
abbrev pub paused : ℕ → List Duration → Duration → List Duration
paused room delays delay = take room (delays ++ delay ∷ [])

abbrev pub Pauses : ℕ → Option (List Duration) → Option (List Duration) → Duration → Type 0
Pauses room None new delay = Unit {0}
Pauses room (Some old) None delay = ⊥
Pauses room (Some old) (Some new) delay = new ≡ paused room old delay
