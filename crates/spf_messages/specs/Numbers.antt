-- Numbers of a Struct: IEEE 754 binary64, by the 64 bits.
use Rattle.std.specs.Prelude.{ℕ, ℤ, pos, neg_ℤ, ◌+◌, ◌-◌, ◌*◌, ◌/◌, ◌%◌, ◌^◌, max, Bool, true, false}
use Rattle.std.specs.Prelude.{nat_le, nat_lt, ◌==◌, Option, Some, None, if◌then◌else◌}
use Rattle.std.specs.Option.{option_map_or}
use Rattle.std.specs.Int.{w64, to_be_bytes}
use Rattle.hex.specs.Hex.{encode_lower}
use Rattle.spf_io.specs.Option.{◌>>=◌}
use Rattle.spf_api.specs.declared.response.ClaimValue.{ClaimValue, Whole, OtherNumber}

-- the highest bit is the sign, the next eleven are the exponent, the others the fraction
abbrev pub is_negative : ℕ → Bool
is_negative bits = nat_le (2 ^ 63) bits

abbrev pub exponent : ℕ → ℕ
exponent bits = bits / 2 ^ 52 % 2 ^ 11

abbrev pub fraction : ℕ → ℕ
fraction bits = bits % 2 ^ 52

-- without its sign the number is significand × 2^(power - 1075), unless the exponent is 2047
abbrev pub significand : ℕ → ℕ
significand bits = if exponent bits == 0 then fraction bits else 2 ^ 52 + fraction bits

abbrev pub power : ℕ → ℕ
power bits = max 1 (exponent bits)

-- s × 2^(p - 1075), where that is whole
abbrev pub scaled : ℕ → ℕ → Option ℕ
scaled s p =
    if nat_le 1075 p then Some (s * 2 ^ (p - 1075))
    else (if s % 2 ^ (1075 - p) == 0 then Some (s / 2 ^ (1075 - p)) else None)

-- a number with a sign, within 64 bits in two's complement
abbrev pub signed : Bool → ℕ → Option ℤ
signed false n = if nat_lt n (2 ^ 63) then Some (pos n) else None
signed true n = if nat_le n (2 ^ 63) then Some (neg_ℤ (pos n)) else None

-- the whole number of 64 bits that these bits stand for
unfoldable pub whole_number : ℕ → Option ℤ
whole_number bits =
    if exponent bits == 2047 then None
    else (scaled (significand bits) (power bits) >>= signed (is_negative bits))

-- a number: whole, or the sixteen hexadecimal digits of its bits
abbrev pub number_value : ℕ → ClaimValue
number_value bits =
    option_map_or Whole (whole_number bits) (OtherNumber (encode_lower (to_be_bytes w64 bits)))
