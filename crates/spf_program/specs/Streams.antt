-- What a run reads from and writes to.
use Rattle.std.specs.Prelude.{ℕ, List, Option}
use Rattle.spf_io.specs.Outside.{Rose}

-- the bytes that an input has left, or that an output
-- holds, where they are known, and how often it failed
pub record Side : Type 0 where
  pub bytes : Option (List ℕ)
  pub failures : ℕ

abbrev pub side : Option (List ℕ) → ℕ → Side
side bytes failures = record { bytes = bytes; failures = failures }

-- it failed between two moments
abbrev pub Failed : Side → Side → Type 0
Failed before after = Rose before.failures after.failures

-- the input, the output and the error output of a run, at one moment
pub record Streams : Type 0 where
  pub input : Side
  pub output : Side
  pub errors : Side
