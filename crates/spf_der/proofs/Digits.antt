-- The tables of digits are held against their definitions at each of the 256 octets, by computing.
use Rattle.std.proofs.Common.{◌≡◌, ℕ, zero, suc, ◌<◌, ◌≤◌, ◌-◌, ◌*◌, Bool, true, false}
use Rattle.std.proofs.Common.{nat_eq, get_or}
use Rattle.std.proofs.Common.{List, refl, arith, inl, inr}
use Rattle.std.specs.Prelude.{◌&&◌, if◌then◌else◌}
use Rattle.std.specs.Char.{is_ascii_digit}
use Rattle.std.proofs.lemmas.Bool.{cases_eq}
use Rattle.std.proofs.lemmas.Bool.Decides.{nat_tests}

abbrev pub digit_of : ℕ → ℕ
digit_of octet = if is_ascii_digit octet then octet - 48 else 100

abbrev pub tens_of : ℕ → ℕ
tens_of octet = if is_ascii_digit octet then (octet - 48) * 10 else 100

-- the table is right below n
unfoldable pub right_below : (ℕ → ℕ) → List ℕ → ℕ → Bool
right_below f table zero = true
right_below f table (suc n) = nat_eq (get_or table n 0) (f n) && right_below f table n

both_of : (x y : Bool) → (x && y) ≡ true → (x ≡ true) × (y ≡ true)
both_of true y h = (refl, h)
both_of false y h = cc

pub right_at : (f : ℕ → ℕ) (table : List ℕ) (n : ℕ) → right_below f table n ≡ true
    → (octet : ℕ) → octet < n → get_or table octet 0 ≡ f octet
unfolding right_below
right_at f table zero h octet lt = absurd (omega arith)
right_at f table (suc n) h octet lt =
    let both = both_of (nat_eq (get_or table n 0) (f n)) (right_below f table n) h in
    elim (cases_eq octet n) [
      | inl same ↦ rw same (grind (arith, nat_tests, both.0))
      | inr other ↦ right_at f table n both.1 octet (omega arith)
    ]

pub digit_bound : (octet : ℕ) → digit_of octet ≤ 100
digit_bound octet = grind (arith, nat_tests)

pub tens_bound : (octet : ℕ) → tens_of octet ≤ 100
tens_bound octet = grind (arith, nat_tests)
