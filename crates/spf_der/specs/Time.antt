-- Times (RFC 5280 section 4.1.2.5), as Unix seconds.
use Rattle.std.specs.Prelude.{ℕ, ◌+◌, ◌-◌, ◌*◌, List, [], ◌∷◌, length, Option, Some, None, Bool}
use Rattle.std.specs.Prelude.{◌&&◌, nat_le, ◌==◌, if◌then◌else◌, ℤ, pos, ◌+ℤ◌, ◌*ℤ◌}
use Rattle.std.specs.Char.{is_ascii_digit}
use Rattle.jiff_core.specs.Calendar.{days_from_civil, days_in_month}
use Rattle.spf_io.specs.Option.{◌>>=◌}
use Rattle.spf_der.specs.Value.{value_at}
use Rattle.spf_der.specs.declared.value.TheConstants.{GENERALIZED_TIME, UTC_TIME}

-- the number that two digits spell
abbrev pub pair_of : ℕ → ℕ → Option ℕ
pair_of a b = if is_ascii_digit a && is_ascii_digit b then Some ((a - 48) * 10 + (b - 48)) else None

-- the calendar has this day
abbrev pub is_day : ℕ → ℕ → ℕ → Bool
is_day y m d = (nat_le 1 m && nat_le m 12) && (nat_le 1 d && nat_le d (days_in_month (pos y) m))

-- the number of a day, counted from 1970-01-01, if the calendar has it
unfoldable pub day_number_of : ℕ → ℕ → ℕ → Option ℤ
day_number_of y m d = if is_day y m d then Some (days_from_civil (pos y) m d) else None

-- the Unix second of a day and a time of day
unfoldable pub moment_of : ℕ → ℕ → ℕ → ℕ → ℕ → ℕ → Option ℤ
moment_of y m d h n s =
    if nat_le h 23 && nat_le n 59 && nat_le s 59 then (do
      day ← day_number_of y m d
      Some ((day *ℤ pos 86400) +ℤ pos ((h * 60 + n) * 60 + s))) else None

-- MMDDHHMMSSZ, and no more, in that year
unfoldable pub clock_of : ℕ → List ℕ → Option ℤ
clock_of year (m ∷ m' ∷ d ∷ d' ∷ h ∷ h' ∷ n ∷ n' ∷ s ∷ s' ∷ z ∷ []) = do
  month ← pair_of m m'
  day ← pair_of d d'
  hour ← pair_of h h'
  minute ← pair_of n n'
  second ← pair_of s s'
  if z == 90 then moment_of year month day hour minute second else None
clock_of year _ = None

-- UTCTime (section 4.1.2.5.1): a year of two digits, from 1950 to 2049
unfoldable pub utc_time : List ℕ → Option ℤ
utc_time (y ∷ y' ∷ bytes) = do
  year ← pair_of y y'
  clock_of (if nat_le 50 year then 1900 + year else 2000 + year) bytes
utc_time _ = None

-- GeneralizedTime (section 4.1.2.5.2): a year of four digits
unfoldable pub generalized_time : List ℕ → Option ℤ
generalized_time (c ∷ c' ∷ y ∷ y' ∷ bytes) = do
  century ← pair_of c c'
  year ← pair_of y y'
  clock_of (century * 100 + year) bytes
generalized_time _ = None

-- a time, by its tag and its contents octets
abbrev pub unix_of : ℕ → List ℕ → Option ℤ
unix_of tag bytes =
    if tag == UTC_TIME then utc_time bytes
    else (if tag == GENERALIZED_TIME then generalized_time bytes else None)

-- the time at the start, and what follows it
unfoldable pub time_at : List ℕ → Option (ℤ × List ℕ)
time_at bytes = do
  v ← value_at bytes
  moment ← unix_of v.0 v.1
  Some (moment, v.2)

-- the Time that the bytes are
abbrev pub whole_time_at : List ℕ → Option ℤ
whole_time_at bytes = do
  moment ← time_at bytes
  if length moment.1 == 0 then Some moment.0 else None

-- the second of the two Times that the bytes are
abbrev pub second_time_at : List ℕ → Option ℤ
second_time_at bytes = do
  start ← time_at bytes
  whole_time_at start.1
