-- The date of a day, as its years and months are
-- counted off, and the text of a time with that date.
use Rattle.std.proofs.Common.{◌≡◌, ℕ, zero, suc, ◌+◌, ◌-◌, ◌/◌, ◌%◌, ◌<◌, ◌≤◌, ◌⊎◌, ⊎_elim, List}
use Rattle.std.proofs.Common.{refl, sym, subst, ap, ◌∙◌, arith, ℤ, pos}
use Rattle.std.specs.Prelude.{unsigned_abs}
use Rattle.std.proofs.lemmas.Bool.{cases_order, lt-ltb, le-ltb}
use Rattle.jiff_core.specs.Calendar.{IsCivilDate, day_count, day_of_year, days_from_civil}
use Rattle.jiff_core.specs.Calendar.{days_in_month, days_in_year, days_of_months}
use Rattle.jiff_core.proofs.CalendarLemmas.{day_count-epoch, day_count-next_year}
use Rattle.jiff_core.proofs.CalendarLemmas.{day_count-later_year, day_count-day_of_year}
use Rattle.jiff_core.proofs.CalendarLemmas.{day_of_year_bound, days_of_months-zero}
use Rattle.jiff_core.proofs.CalendarLemmas.{days_of_months_more, days_of_months_mono}
use Rattle.jiff_core.proofs.SignedLemmas.{signed_arith}
use Rattle.spf_der.specs.Value.{value_text}
use Rattle.spf_der.specs.WrittenTime.{CivilDay, civil_day, expiry_text, month_of, second_text}
use Rattle.spf_der.specs.WrittenTime.{utc_text, generalized_text, year_of}
use Rattle.spf_der.proofs.WrittenTimes.{count_from, year_from}

first_of : ℕ → ℕ
first_of y = day_count (pos y) 1 1

next_first : (y : ℕ) → day_count (pos (y + 1)) 1 1 ≡ day_count (pos y) 1 1 + days_in_year (pos y)
next_first y =
    day_count-next_year (pos y) (pos (y + 1)) (omega (arith, signed_arith))
    (omega (arith, signed_arith))

later_first : (y z : ℕ) → y < z
    → day_count (pos y) 1 1 + days_in_year (pos y) ≤ day_count (pos z) 1 1
later_first y z lt =
    day_count-later_year (pos y) (pos z) (omega (arith, signed_arith)) (omega (arith, signed_arith))

-- a day that lies in the year z is found there
year_found : (n y z day rest : ℕ) → y ≤ z → z ≤ y + n
    → day + day_count (pos y) 1 1 ≡ day_count (pos z) 1 1 + rest → rest < days_in_year (pos z)
    → year_of n y day ≡ (z, rest)
year_found zero y z day rest low high is lt =
    let year : y ≡ z = omega arith in
    let P : ℕ → Type 0 = λ w. day + day_count (pos y) 1 1 ≡ day_count (pos w) 1 1 + rest in
    let same : day + day_count (pos y) 1 1 ≡ day_count (pos y) 1 1 + rest = subst P (sym year) is in
    let left : day ≡ rest = omega arith in
    (λ i. (year i, left i))
year_found (suc n) y z day rest low high is lt =
    ⊎_elim (λ (year : y ≡ z).
    let P : ℕ → Type 0 = λ w. day + day_count (pos y) 1 1 ≡ day_count (pos w) 1 1 + rest in
    let Q : ℕ → Type 0 = λ w. rest < days_in_year (pos w) in
    let same : day + day_count (pos y) 1 1 ≡ day_count (pos y) 1 1 + rest = subst P (sym year) is in
    let left : day ≡ rest = omega arith in
    let short : day < days_in_year (pos y) = omega (arith, left, subst Q (sym year) lt) in
    rw (lt-ltb day (days_in_year (pos y)) short) (λ i. (year i, left i)))
    (λ (other : (y < z) ⊎ (z < y)).
    ⊎_elim (λ (before : y < z).
    let whole : days_in_year (pos y) ≤ day = omega (arith, later_first y z before, is) in
    rw (le-ltb day (days_in_year (pos y)) whole)
    (year_found n (y + 1) z (day - days_in_year (pos y)) rest (omega arith) (omega arith)
    (omega (arith, next_first y, is, whole)) lt))
    (λ (after : z < y). absurd (omega arith)) other)
    (cases_order y z)

-- and in its month
month_found : (n y m k day rest : ℕ) → 1 ≤ m → m ≤ k → k ≤ m + n
    → day + days_of_months (pos y) (m - 1) ≡ days_of_months (pos y) (k - 1) + rest
    → rest < days_in_month (pos y) k
    → month_of n y m day ≡ (k, rest + 1)
month_found zero y m k day rest one low high is lt =
    let month : m ≡ k = omega arith in
    let P : ℕ → Type 0 =
    λ w. day + days_of_months (pos y) (m - 1) ≡ days_of_months (pos y) (w - 1) + rest in
    let same : day + days_of_months (pos y) (m - 1) ≡ days_of_months (pos y) (m - 1) + rest =
    subst P (sym month) is in
    let left : day + 1 ≡ rest + 1 = omega arith in
    (λ i. (month i, left i))
month_found (suc n) y m k day rest one low high is lt =
    ⊎_elim (λ (month : m ≡ k).
    let P : ℕ → Type 0 =
    λ w. day + days_of_months (pos y) (m - 1) ≡ days_of_months (pos y) (w - 1) + rest in
    let Q : ℕ → Type 0 = λ w. rest < days_in_month (pos y) w in
    let same : day + days_of_months (pos y) (m - 1) ≡ days_of_months (pos y) (m - 1) + rest =
    subst P (sym month) is in
    let left : day + 1 ≡ rest + 1 = omega arith in
    let short : day < days_in_month (pos y) m = omega (arith, left, subst Q (sym month) lt) in
    rw (lt-ltb day (days_in_month (pos y) m) short) (λ i. (month i, left i)))
    (λ (other : (m < k) ⊎ (k < m)).
    ⊎_elim (λ (before : m < k).
    let more = days_of_months_more (pos y) m one in
    let mono : days_of_months (pos y) m ≤ days_of_months (pos y) (k - 1) =
    days_of_months_mono (pos y) m (k - 1) (omega arith) in
    let whole : days_in_month (pos y) m ≤ day = omega (arith, more, mono, is) in
    let last : m + 1 - 1 ≡ m = omega arith in
    let R : ℕ → Type 0 =
    λ w. day - days_in_month (pos y) m + days_of_months (pos y) w
    ≡ days_of_months (pos y) (k - 1) + rest in
    rw (le-ltb day (days_in_month (pos y) m) whole)
    (month_found n y (m + 1) k (day - days_in_month (pos y) m) rest (omega arith) (omega arith)
    (omega arith) (subst R (sym last) (omega (arith, more, is, whole))) lt))
    (λ (after : k < m). absurd (omega arith)) other)
    (cases_order m k)

-- the date of a day is the one that the calendar gives it
pub civil_day_is : (y m d number : ℕ) → IsCivilDate (pos y) m d
    → days_from_civil (pos y) m d ≡ pos number → 1970 ≤ y
    → civil_day number ≡ record { year = y; month = m; day = d }
unfolding civil_day
civil_day_is y m d number civil is low =
    let top : y ≤ 9999 = omega (arith, signed_arith, civil.0.1) in
    let counted = count_from (pos y) m d number is in
    let in_year = day_count-day_of_year (pos y) m d civil.2.0 in
    let bound = day_of_year_bound (pos y) m d civil in
    let rest = days_of_months (pos y) (m - 1) + (d - 1) in
    let rest_is : rest + 1 ≡ day_of_year (pos y) m d = omega (arith, civil.2.0) in
    let year : year_of 8029 1970 number ≡ (y, rest) =
    year_found 8029 1970 y number rest low (omega arith)
    (omega (arith, counted, in_year, rest_is, day_count-epoch)) (omega (arith, bound, rest_is)) in
    let month : month_of 11 y 1 rest ≡ (m, d - 1 + 1) =
    month_found 11 y 1 m rest (d - 1) (omega arith) civil.1.0 (omega (arith, civil.1.1))
    (omega (arith, days_of_months-zero (pos y))) (omega (arith, civil.2.0, civil.2.1)) in
    let day : d - 1 + 1 ≡ d = omega (arith, civil.2.0) in
    let both : month_of 11 (year_of 8029 1970 number).0 1 (year_of 8029 1970 number).1 ≡ (m, d) =
    ap (λ (w : ℕ × ℕ). month_of 11 w.0 1 w.1) year ∙ month ∙ (λ i. (m, day i)) in
    (λ i. record { year = (year i).0; month = (both i).0; day = (both i).1 })

-- the digits of a date and a clock are those of the date's day
dated : (n : ℕ) (year : ℤ) (m d : ℕ) → IsCivilDate year m d
    → days_from_civil year m d ≡ pos (n / 86400)
    → civil_day (n / 86400) ≡ record { year = unsigned_abs year; month = m; day = d }
dated n year m d civil is =
    let found = year_from year m d (n / 86400) civil is in
    let P : ℤ → Type 0 = λ z. IsCivilDate z m d → days_from_civil z m d ≡ pos (n / 86400)
    → civil_day (n / 86400) ≡ record { year = unsigned_abs z; month = m; day = d } in
    subst P (sym found.1) (λ c i. civil_day_is found.0 m d (n / 86400) c i found.2) civil is

early : (n : ℕ) → n < 2524608000
    → value_text 23
    (utc_text (civil_day (n / 86400)).year (civil_day (n / 86400)).month (civil_day (n / 86400)).day
    (n % 86400 / 3600) (n % 86400 / 60 % 60) (n % 86400 % 60)) ≡ second_text n
unfolding second_text
early n lt = rw (lt-ltb n 2524608000 lt) refl

late : (n : ℕ) → 2524608000 ≤ n
    → value_text 24
    (generalized_text (civil_day (n / 86400)).year (civil_day (n / 86400)).month
    (civil_day (n / 86400)).day (n % 86400 / 3600) (n % 86400 / 60 % 60) (n % 86400 % 60))
    ≡ second_text n
unfolding second_text
late n le = rw (le-ltb n 2524608000 le) refl

-- the UTCTime of a second before 2050
pub expiry_early : (moment : ℤ) (n : ℕ) (year : ℤ) (m d : ℕ) (octets : List ℕ)
    → n ≡ unsigned_abs moment → IsCivilDate year m d → days_from_civil year m d ≡ pos (n / 86400)
    → n < 2524608000
    → octets ≡ utc_text (unsigned_abs year) m d (n % 86400 / 3600) (n % 86400 / 60 % 60)
    (n % 86400 % 60)
    → value_text 23 octets ≡ expiry_text moment
expiry_early moment n year m d octets abs civil is lt spelled =
    let date = dated n year m d civil is in
    ap (value_text 23)
    (spelled ∙ sym
    (ap (λ (w : CivilDay).
    utc_text w.year w.month w.day (n % 86400 / 3600) (n % 86400 / 60 % 60) (n % 86400 % 60)) date))
    ∙ early n lt ∙ ap second_text abs

-- the GeneralizedTime of a second from 2050 on
pub expiry_late : (moment : ℤ) (n : ℕ) (year : ℤ) (m d : ℕ) (octets : List ℕ)
    → n ≡ unsigned_abs moment → IsCivilDate year m d → days_from_civil year m d ≡ pos (n / 86400)
    → 2524608000 ≤ n
    → octets ≡ generalized_text (unsigned_abs year) m d (n % 86400 / 3600) (n % 86400 / 60 % 60)
    (n % 86400 % 60)
    → value_text 24 octets ≡ expiry_text moment
expiry_late moment n year m d octets abs civil is le spelled =
    let date = dated n year m d civil is in
    ap (value_text 24)
    (spelled ∙ sym
    (ap (λ (w : CivilDay).
    generalized_text w.year w.month w.day (n % 86400 / 3600) (n % 86400 / 60 % 60) (n % 86400 % 60))
    date))
    ∙ late n le ∙ ap second_text abs
