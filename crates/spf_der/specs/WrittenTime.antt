-- The times that are written (RFC 5280 section 4.1.2.5).
use Rattle.std.specs.Prelude.{◌≡◌, ℕ, zero, suc, ◌+◌, ◌-◌, ◌/◌, ◌%◌, List, [], ◌∷◌, Some, nat_lt}
use Rattle.std.specs.Prelude.{if◌then◌else◌, ℤ, pos, unsigned_abs, ◌≤ℤ◌}
use Rattle.jiff_core.specs.Calendar.{days_in_month, days_in_year}
use Rattle.spf_der.specs.Value.{value_text}
use Rattle.spf_der.specs.Time.{unix_of}
use Rattle.spf_der.specs.declared.value.TheConstants.{GENERALIZED_TIME, UTC_TIME}

-- a second of the years 1970 to 9999
abbrev pub IsWritable : ℤ → Type 0
IsWritable moment = (pos 0 ≤ℤ moment) × (moment ≤ℤ pos 253402300799)

-- the last two digits of a number
abbrev pub two : ℕ → List ℕ → List ℕ
two n rest = (48 + n / 10 % 10) ∷ (48 + n % 10) ∷ rest

abbrev pub utc_text : ℕ → ℕ → ℕ → ℕ → ℕ → ℕ → List ℕ
utc_text year month day hour minute second =
    two year (two month (two day (two hour (two minute (two second (90 ∷ []))))))

abbrev pub generalized_text : ℕ → ℕ → ℕ → ℕ → ℕ → ℕ → List ℕ
generalized_text year month day hour minute second =
    two (year / 100) (utc_text year month day hour minute second)

-- UTCTime for years up to 2049, GeneralizedTime after
abbrev pub time_tag : ℤ → ℕ
time_tag moment = if nat_lt (unsigned_abs moment) 2524608000 then UTC_TIME else GENERALIZED_TIME

-- the year of a day, of at most `n` after `year`, and the number of the day in it, from 0
abbrev pub year_of : ℕ → ℕ → ℕ → ℕ × ℕ
year_of zero year day = (year, day)
year_of (suc n) year day =
    if nat_lt day (days_in_year (pos year)) then (year, day)
    else year_of n (year + 1) (day - days_in_year (pos year))

-- the month of a day of a year, of at most `n` after `month`, and the day of the month, from 1
abbrev pub month_of : ℕ → ℕ → ℕ → ℕ → ℕ × ℕ
month_of zero year month day = (month, day + 1)
month_of (suc n) year month day =
    if nat_lt day (days_in_month (pos year) month) then (month, day + 1)
    else month_of n year (month + 1) (day - days_in_month (pos year) month)

-- a date: the year, and the month and the day of the month, from 1
pub record CivilDay : Type 0 where
  pub year : ℕ
  pub month : ℕ
  pub day : ℕ

-- the date of a day, counted from 1970-01-01, up to 9999-12-31
unfoldable pub civil_day : ℕ → CivilDay
civil_day number =
    let year = year_of 8029 1970 number in
    let month = month_of 11 year.0 1 year.1 in
    record { year = year.0; month = month.0; day = month.1 }

-- the Time of a Unix second of those years: its year, month, day and clock, in digits
unfoldable pub second_text : ℕ → List ℕ
second_text n =
    let date = civil_day (n / 86400) in
    let second = n % 86400 in
    if nat_lt n 2524608000
    then value_text UTC_TIME
    (utc_text date.year date.month date.day (second / 3600) (second / 60 % 60) (second % 60))
    else value_text GENERALIZED_TIME
    (generalized_text date.year date.month date.day (second / 3600) (second / 60 % 60)
    (second % 60))

-- what is written of an expiry of the years 1970 to 9999
abbrev pub expiry_text : ℤ → List ℕ
expiry_text moment = second_text (unsigned_abs moment)

-- the text of a time: there is one alone, since each digit of it is fixed by what it means
pub record IsTimeText (moment : ℤ) (text : List ℕ) : Type 0 where
  pub contents : List ℕ
  pub spelled : text ≡ value_text (time_tag moment) contents
  pub means : unix_of (time_tag moment) contents ≡ Some moment
