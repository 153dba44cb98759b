-- A source and a sink in memory: their state, and what each call does to it.
use Rattle.std.specs.Prelude.{ℕ, ◌+◌, ◌-◌, ◌^◌, min, max, List, length, Bool, ◌||◌, ◌==◌, nat_lt}
use Rattle.std.specs.Prelude.{Option, None, Some, Result, Ok, Err}
use Rattle.std.specs.List.{list_any}
use Rattle.std.specs.Prelude.{slice_get}

-- a source: the bytes left, the lengths at which reads are cut, the
-- numbers of the reads that fail, and how many reads and failures there were
pub record MemoryRead : Type 0 where
  pub left : List ℕ
  pub cuts : List ℕ
  pub failing : List ℕ
  pub reads : ℕ
  pub failures : ℕ

-- a sink: the bytes that it holds, the room for them, the numbers
-- of the puts that fail, and how many puts and failures there were
pub record MemoryPut : Type 0 where
  pub held : List ℕ
  pub room : ℕ
  pub failing : List ℕ
  pub puts : ℕ
  pub failures : ℕ

-- the number of the next call; the count saturates at 64 bits
abbrev pub next_number : ℕ → ℕ
next_number n = min (n + 1) (2 ^ 64 - 1)

-- the count of failures after a call
abbrev pub failures_after : {T E : Type 0} → Result T E → ℕ → ℕ
failures_after (Ok _) failures = failures
failures_after (Err _) failures = next_number failures

-- whether the call of this number fails
abbrev pub is_failing : List ℕ → ℕ → Bool
is_failing failing number = list_any (λ k. k == number) failing

-- `n` bytes, or the cut of the read where that is less; a cut of 0 counts as 1
abbrev pub cut_to : Option ℕ → ℕ → ℕ
cut_to None n = n
cut_to (Some cut) n = min n (max cut 1)

-- how many bytes the next read puts into a buffer of `room` bytes:
-- as many as are left and fit, but no more than its cut
abbrev pub given : MemoryRead → ℕ → ℕ
given s room = cut_to (slice_get s.cuts (next_number s.reads - 1)) (min room (length s.left))

-- whether the next put of `n` bytes fails: its number is
-- listed, or the bytes do not fit in the room that is left
abbrev pub is_refused : MemoryPut → ℕ → Bool
is_refused s n = is_failing s.failing (next_number s.puts) || nat_lt s.room (length s.held + n)
