-- Where octets of a time are no digits, what they spell by the table is past the ranges of its
-- fields: so a time is what its ranges make of it, with no test of a digit.
use Rattle.std.proofs.Common.{◌≡◌, ℕ, List, [], ◌∷◌, Bool, true, false, Option, Some, None, length}
use Rattle.std.proofs.Common.{get_or, arith, refl, sym, ◌<◌, ◌≤◌}
use Rattle.std.specs.Prelude.{ℤ, ◌&&◌, ◌==◌, if◌then◌else◌, nat_lt}
use Rattle.std.proofs.lemmas.Bool.Decides.{nat_tests}
use Rattle.spf_io.specs.Option.{◌>>=◌}
use Rattle.spf_der.specs.Time.{pair_of, day_number_of, moment_of, clock_of}

-- where a number of 100 or more gives None as a field, no field needs a test before that
fields : (a b c d e : Bool) (month day hour minute second : ℕ) (f : ℕ → ℕ → ℕ → ℕ → ℕ → Option ℤ)
    → ((a && b && c && d && e) ≡ false → f month day hour minute second ≡ None)
    → (do
      m ← if a then Some month else None
      d' ← if b then Some day else None
      h ← if c then Some hour else None
      n ← if d then Some minute else None
      s ← if e then Some second else None
      f m d' h n s) ≡ f month day hour minute second
fields true true true true true month day hour minute second f out = refl
fields true true true true false month day hour minute second f out = sym (out refl)
fields true true true false e month day hour minute second f out = sym (out refl)
fields true true false d e month day hour minute second f out = sym (out refl)
fields true false c d e month day hour minute second f out = sym (out refl)
fields false b c d e month day hour minute second f out = sym (out refl)

-- each field can be spelled by two digits
abbrev all_below : ℕ → ℕ → ℕ → ℕ → ℕ → Bool
all_below month day hour minute second =
    nat_lt month 100 && nat_lt day 100 && nat_lt hour 100 && nat_lt minute 100 && nat_lt second 100

past : (year month day hour minute second : ℕ)
    → all_below month day hour minute second ≡ false
    → moment_of year month day hour minute second ≡ None
unfolding moment_of day_number_of
past year month day hour minute second is = grind (arith, nat_tests)

past_or_not : (b : Bool) (year month day hour minute second : ℕ)
    → all_below month day hour minute second ≡ false
    → (if b then moment_of year month day hour minute second else None) ≡ None
past_or_not true year month day hour minute second is = past year month day hour minute second is
past_or_not false year month day hour minute second is = refl

clock_is : (year m m' d d' h h' n n' s s' z month day hour minute second : ℕ)
    → pair_of m m' ≡ (if nat_lt month 100 then Some month else None)
    → pair_of d d' ≡ (if nat_lt day 100 then Some day else None)
    → pair_of h h' ≡ (if nat_lt hour 100 then Some hour else None)
    → pair_of n n' ≡ (if nat_lt minute 100 then Some minute else None)
    → pair_of s s' ≡ (if nat_lt second 100 then Some second else None)
    → clock_of year (m ∷ m' ∷ d ∷ d' ∷ h ∷ h' ∷ n ∷ n' ∷ s ∷ s' ∷ z ∷ [])
    ≡ (if z == 90 then moment_of year month day hour minute second else None)
unfolding clock_of
clock_is year m m' d d' h h' n n' s s' z month day hour minute second em ed eh en es =
    rw (em, ed, eh, en, es)
    (fields (nat_lt month 100) (nat_lt day 100) (nat_lt hour 100) (nat_lt minute 100)
    (nat_lt second 100)
    month day hour minute second
    (λ m d h n s. if z == 90 then moment_of year m d h n s else None)
    (past_or_not (z == 90) year month day hour minute second))

-- the same of the octets of a slice, as the code reads them
pub clock_read : (bytes : List ℕ) → 11 ≤ length bytes → length bytes < 12
    → (year month day hour minute second : ℕ)
    → pair_of (get_or bytes 0 0) (get_or bytes 1 0)
    ≡ (if nat_lt month 100 then Some month else None)
    → pair_of (get_or bytes 2 0) (get_or bytes 3 0) ≡ (if nat_lt day 100 then Some day else None)
    → pair_of (get_or bytes 4 0) (get_or bytes 5 0) ≡ (if nat_lt hour 100 then Some hour else None)
    → pair_of (get_or bytes 6 0) (get_or bytes 7 0)
    ≡ (if nat_lt minute 100 then Some minute else None)
    → pair_of (get_or bytes 8 0) (get_or bytes 9 0)
    ≡ (if nat_lt second 100 then Some second else None)
    → clock_of year bytes ≡ (
    if get_or bytes 10 0 == 90 then moment_of year month day hour minute second else None)
clock_read [] low high = absurd (omega arith)
clock_read (a ∷ []) low high = absurd (omega arith)
clock_read (a ∷ b ∷ []) low high = absurd (omega arith)
clock_read (a ∷ b ∷ c ∷ []) low high = absurd (omega arith)
clock_read (a ∷ b ∷ c ∷ d ∷ []) low high = absurd (omega arith)
clock_read (a ∷ b ∷ c ∷ d ∷ e ∷ []) low high = absurd (omega arith)
clock_read (a ∷ b ∷ c ∷ d ∷ e ∷ f ∷ []) low high = absurd (omega arith)
clock_read (a ∷ b ∷ c ∷ d ∷ e ∷ f ∷ g ∷ []) low high = absurd (omega arith)
clock_read (a ∷ b ∷ c ∷ d ∷ e ∷ f ∷ g ∷ h ∷ []) low high = absurd (omega arith)
clock_read (a ∷ b ∷ c ∷ d ∷ e ∷ f ∷ g ∷ h ∷ i ∷ []) low high = absurd (omega arith)
clock_read (a ∷ b ∷ c ∷ d ∷ e ∷ f ∷ g ∷ h ∷ i ∷ j ∷ []) low high = absurd (omega arith)
clock_read (m ∷ m' ∷ d ∷ d' ∷ h ∷ h' ∷ n ∷ n' ∷ s ∷ s' ∷ z ∷ []) low high =
    λ year. clock_is year m m' d d' h h' n n' s s' z
clock_read (a ∷ b ∷ c ∷ d ∷ e ∷ f ∷ g ∷ h ∷ i ∷ j ∷ k ∷ l ∷ more) low high = absurd (omega arith)
