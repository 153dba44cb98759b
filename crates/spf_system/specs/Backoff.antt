-- Growing delays. A delay is a number of nanoseconds, and it grows in whole milliseconds.
use Rattle.std.specs.Prelude.{ℕ, ◌+◌, ◌-◌, ◌*◌, ◌/◌, ◌%◌, ◌^◌, min, max}

abbrev pub NANOS_PER_MILLI : ℕ
NANOS_PER_MILLI = 1_000_000

-- a delay in whole milliseconds, as far as 64 bits go
abbrev pub millis : ℕ → ℕ
millis delay = min (delay / NANOS_PER_MILLI) (2 ^ 64 - 1)

-- a base less its tenth, and a part of the tenth that a random word chooses
abbrev pub jittered : ℕ → ℕ → ℕ
jittered base word = base - base / 10 + word % (base / 10 + 1)

-- Grown: the base is the smaller of twice the current delay and the maximum, in milliseconds
abbrev pub grown : ℕ → ℕ → ℕ → ℕ
grown current max_delay word = jittered (min (2 * current) max_delay) word

-- the same while no identity is issued: from one second on, up to ten
abbrev pub grown_without_identity : ℕ → ℕ → ℕ → ℕ
grown_without_identity current max_delay word =
    grown (max current 1_000) (min max_delay 10_000) word
