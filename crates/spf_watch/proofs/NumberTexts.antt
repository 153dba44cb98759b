-- A number is text.
use Rattle.std.proofs.Common.{◌≡◌, ℕ, ◌<◌, Bool, true, false, List, Result, Ok, Err, None}
use Rattle.std.proofs.Common.{MatchResult, is_ok, IsUtf8, arith, refl}
use Rattle.std.specs.Char.{is_ascii_digit}
use Rattle.std.proofs.lemmas.Bool.Decides.{nat_tests}
use Rattle.std.proofs.lemmas.List.Sums.{AllPass-from_list_all}
use Rattle.std.proofs.lemmas.Str.{IsUtf8-from_ascii}
use Rattle.std.proofs.lemmas.Str.Ascii.{IsAscii-from_all}
use Rattle.spf_program.specs.Numbers.{is_numeral, number_up_to}
use Rattle.spf_program.proofs.Numbers.{digits_of, number_missing}

-- a decimal digit is ASCII
small_digit : (c : ℕ) → is_ascii_digit c ≡ true → c < 128
small_digit c digit = grind (arith, nat_tests)

-- decimal digits are text
numeral_text : (word : List ℕ) → is_numeral word ≡ true → IsUtf8 word
numeral_text word numeral =
    IsUtf8-from_ascii word
    (IsAscii-from_all word
    (λ k d lt. small_digit _
    (AllPass-from_list_all is_ascii_digit word (digits_of word numeral).1 k d lt)))

-- what is not text is not a number
pub no_text : {T E : Type 0} (P : T → Type 0) (Q : E → Type 0) (max : ℕ) (word : List ℕ)
    (r : Result T E) → MatchResult r P (λ e. (IsUtf8 word → ⊥) × Q e) → false ≡ is_ok r
    → None ≡ number_up_to max word
no_text P Q max word (Ok s) read failed = absurd cc
no_text P Q max word (Err e) read failed = number_missing max word (none (is_numeral word) refl)
  where
    none : (b : Bool) → is_numeral word ≡ b → b ≡ false
    none false is = refl
    none true is = absurd (read.0 (numeral_text word is))
