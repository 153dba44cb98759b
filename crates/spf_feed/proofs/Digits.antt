-- The two digits of an octet are held against the table at each of the 256 octets, by computing.
use Rattle.std.proofs.Common.{◌≡◌, ℕ, zero, suc, ◌+◌, ◌*◌, ◌/◌, ◌%◌, ◌<◌, Bool, true, false, nat_eq}
use Rattle.std.proofs.Common.{slice_index, refl, arith, inl, inr}
use Rattle.std.specs.Prelude.{◌&&◌, bit_and, bit_or}
use Rattle.std.proofs.lemmas.Bool.{cases_eq}
use Rattle.std.proofs.lemmas.Bool.Decides.{nat_tests}
use Rattle.hex.specs.Hex.{lower_digits}

-- the halves of an octet, side by side
abbrev pub halves_of : ℕ → ℕ
halves_of octet = bit_and (bit_or octet (octet * 4096 % 65536) / 16) 3855

-- their digits
abbrev pub pair_of : ℕ → ℕ
pair_of octet = halves_of octet + 12336 + bit_and ((halves_of octet + 30326) / 128) 257 * 39

abbrev is_first : ℕ → Bool
is_first octet = nat_eq (pair_of octet % 256) (slice_index lower_digits (octet / 16))

abbrev is_second : ℕ → Bool
is_second octet = nat_eq (pair_of octet / 256) (slice_index lower_digits (octet % 16))

-- the digits are right below n
unfoldable pub right_below : ℕ → Bool
right_below zero = true
right_below (suc n) = is_first n && (is_second n && right_below n)

left_of : (x y : Bool) → (x && y) ≡ true → (x ≡ true) × (y ≡ true)
left_of true y h = (refl, h)
left_of false y h = cc

pub right_at : (n : ℕ) → right_below n ≡ true → (octet : ℕ) → octet < n
    → (pair_of octet % 256 ≡ slice_index lower_digits (octet / 16))
    × (pair_of octet / 256 ≡ slice_index lower_digits (octet % 16))
unfolding right_below
right_at zero h octet lt = absurd (omega arith)
right_at (suc n) h octet lt =
    let first = left_of (is_first n) (is_second n && right_below n) h in
    let second = left_of (is_second n) (right_below n) first.1 in
    elim (cases_eq octet n) [
      | inl same ↦ rw same (grind (arith, nat_tests, first.0), grind (arith, nat_tests, second.0))
      | inr other ↦ right_at n second.1 octet (omega arith)
    ]
