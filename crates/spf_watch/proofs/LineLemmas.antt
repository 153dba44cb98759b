-- The fields of a line, and what they say.
use Rattle.std.proofs.Common.{◌≡◌, refl, ap, ℕ, zero, suc, ◌-◌, ◌^◌, ◌<◌, ◌≤◌, Bool, true, false}
use Rattle.std.proofs.Common.{not, ◌==◌, nat_lt, List, [], ◌∷◌, ◌++◌, length, get_or, Some, decimal}
use Rattle.std.proofs.Common.{codes, arith}
use Rattle.std.specs.Char.{is_ascii_digit}
use Rattle.std.specs.List.{list_all}
use Rattle.std.specs.Str.{bytes_eq}
use Rattle.std.specs.Str.Parse.{AllDigits}
use Rattle.std.proofs.lemmas.Bool.Decides.{nat_tests}
use Rattle.std.proofs.lemmas.Fmt.{decimal_is_IsNumeral, first_decimal, decimal_nonempty}
use Rattle.std.proofs.lemmas.Fmt.{decimal_digit}
use Rattle.std.proofs.lemmas.Str.Parse.{digit_from_value}
use Rattle.spf_program.specs.Numbers.{is_numeral, leads_with_zero, number_up_to}
use Rattle.spf_watch.specs.Tallied.{first_word, after_word, revision_in, withdrawn_in}
use Rattle.spf_watch.proofs.TallyLemmas.{counted}
use Rattle.spf_watch.proofs.Searched.{Avoids, first_word_cut, after_word_cut}

-- digits are not spaces
digits_avoid : (ds : List ℕ) → AllDigits 10 ds → Avoids 32 ds
digits_avoid [] digits k lt is = omega arith
digits_avoid (c ∷ cs) digits zero lt is = let low = digit_from_value c digits.0 in omega arith
digits_avoid (c ∷ cs) digits (suc k) lt is = digits_avoid cs digits.1 k (omega arith) is

-- a number has no space
pub decimal_avoids : (n : ℕ) → n < 2 ^ 64 → Avoids 32 (decimal n)
decimal_avoids n small = digits_avoid (decimal n) (decimal_is_IsNumeral n small).0.1

-- digits pass the test
digits_pass : (ds : List ℕ) → AllDigits 10 ds → list_all is_ascii_digit ds ≡ true
digits_pass [] digits = refl
digits_pass (c ∷ cs) digits =
    rw (one c (digit_from_value c digits.0).0 (digit_from_value c digits.0).1)
    (digits_pass cs digits.1)
  where
    one : (c : ℕ) → 48 ≤ c → c ≤ 57 → is_ascii_digit c ≡ true
    one c low high = grind (arith, nat_tests)

-- a text whose first octet is above zero has no leading zero
unled : (ds : List ℕ) → 48 < get_or ds 0 0 → leads_with_zero ds ≡ false
unled [] above = refl
unled (c ∷ []) above = refl
unled (c ∷ d ∷ cs) above = other c above
  where
    other : (c : ℕ) → 48 < c → (c == 48) ≡ false
    other c above = grind (arith, nat_tests)

-- a number has no leading zero
decimal_unled : (n : ℕ) → n < 2 ^ 64 → leads_with_zero (decimal n) ≡ false
decimal_unled zero small = ap leads_with_zero (decimal_digit 0 (omega arith))
decimal_unled (suc n) small = unled (decimal (suc n)) (first_decimal (suc n) (omega arith) small)

-- a list of some digits is not empty
some_digits : (ds : List ℕ) → 0 < length ds → not (length ds == 0) ≡ true
some_digits ds some = grind (arith, nat_tests)

-- a number is a numeral
decimal_numeral : (n : ℕ) → n < 2 ^ 64 → is_numeral (decimal n) ≡ true
unfolding is_numeral
decimal_numeral n small =
    rw (
      some_digits (decimal n) (decimal_nonempty n small),
      digits_pass (decimal n) (decimal_is_IsNumeral n small).0.1,
      decimal_unled n small,
    ) refl

-- a number is not above its bound
within : (max n : ℕ) → n ≤ max → nat_lt max n ≡ false
within max n small = grind (arith, nat_tests)

-- a number that is written is read back
pub decimal_read : (n : ℕ) → n < 2 ^ 64 → number_up_to (2 ^ 64 - 1) (decimal n) ≡ Some n
unfolding number_up_to
decimal_read n small =
    rw (
      decimal_numeral n small,
      (decimal_is_IsNumeral n small).1,
      within (2 ^ 64 - 1) n (omega arith),
    ) refl

-- ---- lines

-- a number before other fields
pub front_passed : (n : ℕ) (rest : List ℕ) → n < 2 ^ 64 → after_word (decimal n ++ 32 ∷ rest) ≡ rest
front_passed n rest small = after_word_cut (decimal n) rest (decimal_avoids n small)

-- `waiting` is not a number
pub waiting_unread : (before n : ℕ) → n < 2 ^ 64
    → revision_in before (decimal n ++ 32 ∷ codes "waiting") ≡ before
unfolding revision_in number_up_to is_numeral
waiting_unread before n small = rw (front_passed n (codes "waiting") small) refl

-- it is not counted
pub waiting_uncounted : (before n : ℕ) → n < 2 ^ 64
    → withdrawn_in before (decimal n ++ 32 ∷ codes "waiting") ≡ before
unfolding withdrawn_in
waiting_uncounted before n small = rw (front_passed n (codes "waiting") small) refl

-- the revision is the second word
pub revision_read : (before n r : ℕ) (rest : List ℕ) → n < 2 ^ 64 → r < 2 ^ 64
    → revision_in before (decimal n ++ 32 ∷ (decimal r ++ 32 ∷ rest)) ≡ r
unfolding revision_in
revision_read before n r rest small fits =
    rw (
      front_passed n (decimal r ++ 32 ∷ rest) small,
      first_word_cut (decimal r) rest (decimal_avoids r fits),
      decimal_read r fits,
    ) refl

-- the third word says whether the line is counted
pub third_read : (before n r : ℕ) (rest : List ℕ) (b : Bool) → n < 2 ^ 64 → r < 2 ^ 64
    → bytes_eq (first_word rest) (codes "withdrawn") ≡ b
    → withdrawn_in before (decimal n ++ 32 ∷ (decimal r ++ 32 ∷ rest)) ≡ counted b before
unfolding withdrawn_in
third_read before n r rest b small fits third =
    rw (front_passed n (decimal r ++ 32 ∷ rest) small, front_passed r rest fits, third) refl
