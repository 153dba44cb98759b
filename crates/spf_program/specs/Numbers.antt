-- Decimal numbers, as arguments spell them.
use Rattle.std.specs.Prelude.{ℕ, ◌-◌, ◌^◌, ℤ, pos, Bool, false, not, ◌&&◌, ◌==◌, nat_lt}
use Rattle.std.specs.Prelude.{List, ◌∷◌, length, Option, None, Some, if◌then◌else◌}
use Rattle.std.specs.Char.{is_ascii_digit}
use Rattle.std.specs.List.{list_all}
use Rattle.std.specs.Option.{option_map}
use Rattle.std.specs.Str.Parse.{digits_value}

-- a zero before a further digit
abbrev pub leads_with_zero : List ℕ → Bool
leads_with_zero (digit ∷ next ∷ digits) = digit == 48
leads_with_zero _ = false

-- decimal digits, at least one, without a leading zero
unfoldable pub is_numeral : List ℕ → Bool
is_numeral text =
    (not (length text == 0)) && (list_all is_ascii_digit text && not (leads_with_zero text))

-- the number that a text spells, where it is at most `max`
unfoldable pub number_up_to : ℕ → List ℕ → Option ℕ
number_up_to max text =
    if not (is_numeral text) then None
    else (if nat_lt max (digits_value 10 text) then None
    else Some (digits_value 10 text))

-- a number, at most 2^63 - 1
abbrev pub number_in : List ℕ → Option ℕ
number_in text = number_up_to (2 ^ 63 - 1) text

-- a moment, in Unix seconds
abbrev pub moment_in : List ℕ → Option ℤ
moment_in text = option_map pos (number_in text)
