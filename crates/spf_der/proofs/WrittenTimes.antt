-- What is written of a time is read as that time.
use Rattle.std.proofs.Common.{◌≡◌, ℕ, ◌+◌, ◌*◌, ◌/◌, ◌%◌, ◌^◌, ◌<◌, ◌≤◌, ◌⊎◌, ⊎_elim, true, cond}
use Rattle.std.proofs.Common.{List, Some, nat_le, refl, sym, subst, ap, ◌∙◌, arith, ℤ, pos, negsuc}
use Rattle.std.proofs.Common.{◌≤ℤ◌}
use Rattle.std.specs.Prelude.{unsigned_abs}
use Rattle.std.proofs.lemmas.Bool.{cases_order, le-leb, lt-ltb, le-ltb}
use Rattle.std.proofs.lemmas.Bool.Decides.{nat_tests}
use Rattle.jiff_core.specs.Calendar.{IsCivilDate, day_count, days_from_civil}
use Rattle.jiff_core.proofs.CalendarLemmas.{day_count-epoch, days_from_civil-day_count}
use Rattle.jiff_core.proofs.CalendarLemmas.{day_count-lt_year, days_in_month_bounds}
use Rattle.jiff_core.proofs.MarchLemmas.{day_count-late}
use Rattle.jiff_core.proofs.SignedLemmas.{signed_arith}
use borrow.Author.Differences.{up, down}
use Rattle.spf_der.specs.Time.{pair_of, is_day, day_number_of, moment_of, clock_of, utc_time}
use Rattle.spf_der.specs.Time.{generalized_time, unix_of}
use Rattle.spf_der.specs.Value.{value_text}
use Rattle.spf_der.specs.WrittenTime.{utc_text, generalized_text, time_tag, IsTimeText, IsWritable}

-- two digits are read as what they spell
pair_digits : (n : ℕ) → pair_of (48 + n / 10 % 10) (48 + n % 10) ≡ Some (n % 100)
pair_digits n = grind (arith, nat_tests)

-- the year of two digits
abbrev pub utc_year : ℕ → ℕ
utc_year n = cond (nat_le 50 n) (1900 + n) (2000 + n)

pub utc_time-utc_text : (year month day hour minute second : ℕ)
    → utc_time (utc_text year month day hour minute second)
    ≡ moment_of (utc_year (year % 100)) (month % 100) (day % 100) (hour % 100) (minute % 100)
    (second % 100)
unfolding utc_time clock_of
utc_time-utc_text year month day hour minute second =
    rw (
      pair_digits year,
      pair_digits month,
      pair_digits day,
      pair_digits hour,
      pair_digits minute,
      pair_digits second,
    ) refl

pub generalized_time-text : (year month day hour minute second : ℕ)
    → generalized_time (generalized_text year month day hour minute second)
    ≡ moment_of (year / 100 % 100 * 100 + year % 100) (month % 100) (day % 100) (hour % 100)
    (minute % 100) (second % 100)
unfolding generalized_time clock_of
generalized_time-text year month day hour minute second =
    rw (
      pair_digits (year / 100),
      pair_digits year,
      pair_digits month,
      pair_digits day,
      pair_digits hour,
      pair_digits minute,
      pair_digits second,
    ) refl

-- a second of a day that the calendar has
moment_of_day : (y m d day second : ℕ) → day_number_of y m d ≡ Some (pos day) → second < 86400
    → moment_of y m d (second / 3600) (second / 60 % 60) (second % 60)
    ≡ Some (pos (day * 86400 + second))
unfolding moment_of
moment_of_day y m d day second is lt =
    let h : nat_le (second / 3600) 23 ≡ true = le-leb (second / 3600) 23 (omega arith) in
    let n : nat_le (second / 60 % 60) 59 ≡ true = le-leb (second / 60 % 60) 59 (omega arith) in
    let s : nat_le (second % 60) 59 ≡ true = le-leb (second % 60) 59 (omega arith) in
    let sum : day * 86400 + ((second / 3600 * 60 + second / 60 % 60) * 60 + second % 60)
    ≡ day * 86400 + second = omega arith in
    rw (h, n, s, is) (ap (λ (z : ℕ). Some (pos z)) sum)

is_civil_day : (y m d : ℕ) → IsCivilDate (pos y) m d → is_day y m d ≡ true
is_civil_day y m d civil = grind (arith, nat_tests)

day_number : (y m d day : ℕ) → IsCivilDate (pos y) m d → days_from_civil (pos y) m d ≡ pos day
    → day_number_of y m d ≡ Some (pos day)
unfolding day_number_of
day_number y m d day civil is = rw (is_civil_day y m d civil, is) refl

-- the count of a day from its number
pub count_from : (y : ℤ) (m d day : ℕ) → days_from_civil y m d ≡ pos day
    → day + 4371953 ≡ day_count y m d
count_from y m d day is =
    let both = days_from_civil-day_count y m d in
    let P : ℤ → Type 0 = λ z. up z + 4371953 ≡ down z + day_count y m d in
    let same : day + 4371953 ≡ 0 + day_count y m d = subst P is both in
    omega arith

-- such a day lies in 1970 or later
pub year_from : (y : ℤ) (m d day : ℕ) → IsCivilDate y m d → days_from_civil y m d ≡ pos day
    → (n : ℕ) × (y ≡ pos n) × (1970 ≤ n)
year_from (pos n) m d day civil is =
    let late : 1970 ≤ n → (k : ℕ) × (pos n ≡ pos k) × (1970 ≤ k) = λ le. (n, refl, le) in
    ⊎_elim (λ (e : n ≡ 1970). late (omega arith))
    (λ (other : (n < 1970) ⊎ (1970 < n)).
    ⊎_elim (λ (early : n < 1970).
    let less = day_count-lt_year (pos n) m d (pos 1970) 1 1 civil (omega arith)
    (omega (arith, signed_arith)) in
    absurd (omega (arith, less, day_count-epoch, count_from (pos n) m d day is)))
    (λ (after : 1970 < n). late (omega arith)) other)
    (cases_order n 1970)
year_from (negsuc n) m d day civil is =
    let less = day_count-lt_year (negsuc n) m d (pos 1970) 1 1 civil (omega arith)
    (omega (arith, signed_arith)) in
    absurd (omega (arith, less, day_count-epoch, count_from (negsuc n) m d day is))

pub day_count-2049 : day_count (pos 2049) 12 31 ≡ 4401172
day_count-2049 =
    day_count-late (pos 2049) 12049 12 31 refl (omega arith) (omega arith) (omega arith)

-- and before 2050 where it has one of these numbers
pub year_before : (n m d day : ℕ) → IsCivilDate (pos n) m d → days_from_civil (pos n) m d ≡ pos day
    → day < 29220 → n < 2050
year_before n m d day civil is lt =
    let last : IsCivilDate (pos 2049) 12 31 = (
      (omega (arith, signed_arith), omega (arith, signed_arith)),
      (omega arith, omega arith),
      (omega arith, omega arith),
    ) in
    let late : 2050 ≤ n → n < 2050 = λ (le : 2050 ≤ n).
    let less = day_count-lt_year (pos 2049) 12 31 (pos n) m d last civil.2.0
    (omega (arith, signed_arith)) in
    absurd (omega (arith, less, day_count-2049, count_from (pos n) m d day is)) in
    ⊎_elim (λ (e : n ≡ 2050). late (omega arith))
    (λ (other : (n < 2050) ⊎ (2050 < n)).
    ⊎_elim (λ (early : n < 2050). early) (λ (after : 2050 < n). late (omega arith)) other)
    (cases_order n 2050)

-- a number that is not negative
pub not_negative : (z : ℤ) → pos 0 ≤ℤ z → z ≡ pos (unsigned_abs z)
not_negative (pos n) le = refl
not_negative (negsuc n) le = absurd (omega (arith, signed_arith))

small : (n : ℕ) → n < 100 → n % 100 ≡ n
small n lt = omega arith

month_fits : (y m d : ℕ) → IsCivilDate (pos y) m d → (m % 100 ≡ m) × (d % 100 ≡ d)
month_fits y m d civil = let days = days_in_month_bounds (pos y) m in (omega arith, omega arith)

utc_reads : (n y m d : ℕ) → IsCivilDate (pos y) m d → days_from_civil (pos y) m d ≡ pos (n / 86400)
    → 1970 ≤ y → n < 2524608000
    → utc_time (utc_text y m d (n % 86400 / 3600) (n % 86400 / 60 % 60) (n % 86400 % 60))
    ≡ Some (pos n)
utc_reads n y m d civil is low lt =
    let high : y < 2050 = year_before y m d (n / 86400) civil is (omega arith) in
    let year : utc_year (y % 100) ≡ y = grind (arith, nat_tests) in
    let fits = month_fits y m d civil in
    let hour : n % 86400 / 3600 % 100 ≡ n % 86400 / 3600 = omega arith in
    let minute : n % 86400 / 60 % 60 % 100 ≡ n % 86400 / 60 % 60 = omega arith in
    let second : n % 86400 % 60 % 100 ≡ n % 86400 % 60 = omega arith in
    let whole : n / 86400 * 86400 + n % 86400 ≡ n = omega arith in
    utc_time-utc_text y m d (n % 86400 / 3600) (n % 86400 / 60 % 60) (n % 86400 % 60)
    ∙ (rw (year, fits.0, fits.1, hour, minute, second)
    (moment_of_day y m d (n / 86400) (n % 86400) (day_number y m d (n / 86400) civil is)
    (omega arith)))
    ∙ ap (λ (z : ℕ). Some (pos z)) whole

generalized_reads : (n y m d : ℕ) → IsCivilDate (pos y) m d
    → days_from_civil (pos y) m d ≡ pos (n / 86400)
    → generalized_time
    (generalized_text y m d (n % 86400 / 3600) (n % 86400 / 60 % 60) (n % 86400 % 60))
    ≡ Some (pos n)
generalized_reads n y m d civil is =
    let most : y ≤ 9999 = omega (arith, signed_arith, civil.0.1) in
    let year : y / 100 % 100 * 100 + y % 100 ≡ y = omega arith in
    let fits = month_fits y m d civil in
    let hour : n % 86400 / 3600 % 100 ≡ n % 86400 / 3600 = omega arith in
    let minute : n % 86400 / 60 % 60 % 100 ≡ n % 86400 / 60 % 60 = omega arith in
    let second : n % 86400 % 60 % 100 ≡ n % 86400 % 60 = omega arith in
    let whole : n / 86400 * 86400 + n % 86400 ≡ n = omega arith in
    generalized_time-text y m d (n % 86400 / 3600) (n % 86400 / 60 % 60) (n % 86400 % 60)
    ∙ (rw (year, fits.0, fits.1, hour, minute, second)
    (moment_of_day y m d (n / 86400) (n % 86400) (day_number y m d (n / 86400) civil is)
    (omega arith)))
    ∙ ap (λ (z : ℕ). Some (pos z)) whole

-- the UTCTime of a second before 2050
pub utc_means : (n : ℕ) (year : ℤ) (m d : ℕ) → IsCivilDate year m d
    → days_from_civil year m d ≡ pos (n / 86400) → n < 2524608000
    → utc_time (utc_text (unsigned_abs year) m d (n % 86400 / 3600) (n % 86400 / 60 % 60)
    (n % 86400 % 60)) ≡ Some (pos n)
utc_means n year m d civil is lt =
    let found = year_from year m d (n / 86400) civil is in
    let P : ℤ → Type 0 = λ z. IsCivilDate z m d → days_from_civil z m d ≡ pos (n / 86400)
    → utc_time (utc_text (unsigned_abs z) m d (n % 86400 / 3600) (n % 86400 / 60 % 60)
    (n % 86400 % 60)) ≡ Some (pos n) in
    subst P (sym found.1) (λ c i. utc_reads n found.0 m d c i found.2 lt) civil is

-- the GeneralizedTime of a second from 1970 on
pub generalized_means : (n : ℕ) (year : ℤ) (m d : ℕ) → IsCivilDate year m d
    → days_from_civil year m d ≡ pos (n / 86400)
    → generalized_time
    (generalized_text (unsigned_abs year) m d (n % 86400 / 3600) (n % 86400 / 60 % 60)
    (n % 86400 % 60)) ≡ Some (pos n)
generalized_means n year m d civil is =
    let found = year_from year m d (n / 86400) civil is in
    let P : ℤ → Type 0 = λ z. IsCivilDate z m d → days_from_civil z m d ≡ pos (n / 86400)
    → generalized_time
    (generalized_text (unsigned_abs z) m d (n % 86400 / 3600) (n % 86400 / 60 % 60)
    (n % 86400 % 60)) ≡ Some (pos n) in
    subst P (sym found.1) (λ c i. generalized_reads n found.0 m d c i) civil is

-- the text of a time, by its contents octets
pub time_text_early : (moment : ℤ) (contents : List ℕ) → pos 0 ≤ℤ moment
    → unsigned_abs moment < 2524608000 → utc_time contents ≡ Some (pos (unsigned_abs moment))
    → IsTimeText moment (value_text 23 contents)
time_text_early moment contents low lt means =
    let tag : time_tag moment ≡ 23 = rw (lt-ltb (unsigned_abs moment) 2524608000 lt) refl in
    let P : ℕ → Type 0 = λ t. unix_of t contents ≡ Some moment in
    record {
      contents = contents;
      spelled = ap (λ (t : ℕ). value_text t contents) (sym tag);
      means = subst P (sym tag) (means ∙ ap Some (sym (not_negative moment low)));
    }

pub time_text_late : (moment : ℤ) (contents : List ℕ) → pos 0 ≤ℤ moment
    → 2524608000 ≤ unsigned_abs moment
    → generalized_time contents ≡ Some (pos (unsigned_abs moment))
    → IsTimeText moment (value_text 24 contents)
time_text_late moment contents low le means =
    let tag : time_tag moment ≡ 24 = rw (le-ltb (unsigned_abs moment) 2524608000 le) refl in
    let P : ℕ → Type 0 = λ t. unix_of t contents ≡ Some moment in
    record {
      contents = contents;
      spelled = ap (λ (t : ℕ). value_text t contents) (sym tag);
      means = subst P (sym tag) (means ∙ ap Some (sym (not_negative moment low)));
    }

pub early_time : (moment : ℤ) (n : ℕ) (year : ℤ) (m d : ℕ) (octets : List ℕ) → pos 0 ≤ℤ moment
    → n ≡ unsigned_abs moment → IsCivilDate year m d → days_from_civil year m d ≡ pos (n / 86400)
    → n < 2524608000
    → octets ≡ utc_text (unsigned_abs year) m d (n % 86400 / 3600) (n % 86400 / 60 % 60)
    (n % 86400 % 60)
    → IsTimeText moment (value_text 23 octets)
early_time moment n year m d octets low abs civil is lt spelled =
    time_text_early moment octets low (omega (arith, abs))
    (ap utc_time spelled ∙ utc_means n year m d civil is lt ∙ ap (λ (z : ℕ). Some (pos z)) abs)

pub late_time : (moment : ℤ) (n : ℕ) (year : ℤ) (m d : ℕ) (octets : List ℕ) → pos 0 ≤ℤ moment
    → n ≡ unsigned_abs moment → IsCivilDate year m d → days_from_civil year m d ≡ pos (n / 86400)
    → 2524608000 ≤ n
    → octets ≡ generalized_text (unsigned_abs year) m d (n % 86400 / 3600) (n % 86400 / 60 % 60)
    (n % 86400 % 60)
    → IsTimeText moment (value_text 24 octets)
late_time moment n year m d octets low abs civil is le spelled =
    time_text_late moment octets low (omega (arith, abs))
    (ap generalized_time spelled ∙ generalized_means n year m d civil is
    ∙ ap (λ (z : ℕ). Some (pos z)) abs)

-- a second of those years has a day number that fits
pub day_fits : (moment : ℤ) (n : ℕ) → IsWritable moment → n ≡ unsigned_abs moment
    → n / 86400 < 2 ^ 63
day_fits moment n writable abs =
    let P : ℤ → Type 0 = λ z. z ≤ℤ pos 253402300799 in
    let high : pos (unsigned_abs moment) ≤ℤ pos 253402300799 =
    subst P (not_negative moment writable.0) writable.1 in
    let most : unsigned_abs moment ≤ 253402300799 = omega (arith, signed_arith, high) in
    omega (arith, abs, most)
