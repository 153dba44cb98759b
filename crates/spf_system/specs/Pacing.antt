-- The pauses of a session by its words: each growth takes a random word of its own. A history of
-- steps is a function of the words; both have the newest first.
use Rattle.std.specs.Prelude.{◌≡◌, ℕ, Bool, if◌then◌else◌, List, [], ◌∷◌, map, reverse, Option}
use Rattle.std.specs.Prelude.{None}
use Rattle.std.specs.Prelude.{Some}
use Rattle.std.specs.Duration.{as_nanos}
use Rattle.spf_system.specs.declared.pace.Pace.{Pace}
use Rattle.spf_system.specs.declared.pacer.AttemptEnd.{AttemptEnd}
use Rattle.spf_system.specs.Delays.{PaceStep, Synchronised, Ended, StandsAfter, delays_of}
use Rattle.spf_system.specs.Delays.{does_grow, is_synchronised}

-- where no word is left it counts as 0
abbrev pub newest_word : List ℕ → ℕ
newest_word [] = 0
newest_word (word ∷ words) = word

abbrev pub earlier_words : List ℕ → List ℕ
earlier_words [] = []
earlier_words (word ∷ words) = words

-- the first update was accepted
abbrev pub synchronised : (List ℕ → List PaceStep) → List ℕ → List PaceStep
synchronised before words = Synchronised ∷ before words

-- an attempt ended, after an accepted update or before the first
abbrev pub ended : Bool → AttemptEnd → (List ℕ → List PaceStep) → List ℕ → List PaceStep
ended synced end before words =
    if does_grow synced end then Ended end (newest_word words) ∷ before (earlier_words words)
    else Ended end 0 ∷ before words

-- one more event, which may be the first accepted update, or end an attempt
abbrev pub paced_by : Bool → Bool → Option AttemptEnd → (List ℕ → List PaceStep) → List ℕ
    → List PaceStep
paced_by synced opening None before words =
    if opening then synchronised before words else before words
paced_by synced opening (Some end) before words = ended synced end before words

-- whatever the words, the history is synchronised or not
abbrev pub AreSynced : Bool → (List ℕ → List PaceStep) → Type 0
AreSynced synced steps = (words : List ℕ) → is_synchronised (steps words) ≡ synced

-- a pace stands where these steps put it, and its delays are theirs
pub record Paces (steps : List ℕ → List PaceStep) (pace : Pace) : Type 0 where
  pub stands : StandsAfter pace.bounds (steps (reverse pace.words.items)) pace.pacer
  pub delays_are : reverse (map as_nanos pace.delays.items)
      ≡ delays_of pace.bounds (steps (reverse pace.words.items))
