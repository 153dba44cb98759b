-- A file in memory, and what a crash leaves of it.
use Rattle.std.specs.Prelude.{◌≡◌, ◌≢◌, ℕ, ◌≤◌, ◌<◌, ◌⊎◌, max, Bool, true, List, length, slice_get}
use Rattle.std.specs.Prelude.{Some}

-- the bytes, and the positions at which a crash leaves what is there;
-- the lists reach as far as the file did since it was synced
pub record FileState : Type 0 where
  pub bytes : List ℕ
  pub settled : List Bool

abbrev pub longest : FileState → ℕ
longest f = max (length f.bytes) (length f.settled)

-- a crash may leave these bytes
pub record IsOutcome (f : FileState) (bytes : List ℕ) : Type 0 where
  pub stays : (i : ℕ) → slice_get f.settled i ≡ Some true → i < length f.bytes
      → slice_get bytes i ≡ slice_get f.bytes i
  pub no_longer : length bytes ≤ longest f

-- what is settled but for a range
pub record IsUnsettled (from end size : ℕ) (old new : List Bool) : Type 0 where
  pub size_is : length new ≡ size
  pub settled : (i : ℕ) → slice_get new i ≡ Some true
      → (slice_get old i ≡ Some true) × ((i < from) ⊎ (end ≤ i))
  pub still : (i : ℕ) → i < size → slice_get old i ≡ Some true → (i < from) ⊎ (end ≤ i)
      → slice_get new i ≡ Some true

-- an outcome up to a position, with `fill` where a crash may leave anything
pub record IsFilledTo (fill size : ℕ) (f : FileState) (bytes : List ℕ) : Type 0 where
  pub size_is : length bytes ≡ size
  pub stays : (i : ℕ) → i < size → slice_get f.settled i ≡ Some true → i < length f.bytes
      → slice_get bytes i ≡ slice_get f.bytes i
  pub fills : (i : ℕ) → i < size → (slice_get f.settled i ≢ Some true) ⊎ (length f.bytes ≤ i)
      → slice_get bytes i ≡ Some fill

-- the longest outcome, with `fill` where a crash may leave anything
abbrev pub IsFilled : ℕ → FileState → List ℕ → Type 0
IsFilled fill f bytes = IsFilledTo fill (longest f) f bytes
