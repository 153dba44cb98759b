-- Whole numbers among binary64.
use Rattle.std.proofs.Common.{◌≡◌, ℕ, ◌-◌, ◌*◌, ◌%◌, ◌^◌, ◌<◌, ◌≤◌, Bool, true, false}
use Rattle.std.proofs.Common.{Option, Some, None, IfSome, refl, arith}
use Rattle.std.proofs.Math.Nat.{mod-eq_of_lt, mul-le-mul, pow-le-pow_right}
use Rattle.std.proofs.lemmas.Bool.Decides.{nat_tests}
use Rattle.std.specs.Prelude.{nat_le, nat_lt, ◌==◌}
use Rattle.spf_messages.specs.Numbers.{scaled, signed}

-- a number above 2^63 is not one of 64 bits
pub signed_large : (b : Bool) (n : ℕ) → 2 ^ 63 < n → signed b n ≡ None
signed_large true n lt =
    let test : nat_le n (2 ^ 63) ≡ false = grind (arith, nat_tests, lt) in rw test refl
signed_large false n lt =
    let test : nat_lt n (2 ^ 63) ≡ false = grind (arith, nat_tests, lt) in rw test refl

product : (s b : ℕ) → 2 ^ 52 ≤ s → 2 ^ 12 ≤ b → 2 ^ 63 < s * b
product s b first second =
    let whole : 2 ^ 52 * 2 ^ 12 ≤ s * b = mul-le-mul first second in omega (arith, whole)

pub scaled_large : (s p : ℕ) → 2 ^ 52 ≤ s → 1075 ≤ p → 11 < p - 1075
    → IfSome (scaled s p) (λ n. 2 ^ 63 < n)
scaled_large s p le up far =
    let test : nat_le 1075 p ≡ true = grind (arith, nat_tests, up) in
    let high : 2 ^ 12 ≤ 2 ^ (p - 1075) =
    pow-le-pow_right {n = 2} (omega arith) {i = 12} {j = p - 1075} (omega (arith, far)) in
    rw test (product s (2 ^ (p - 1075)) le high)

pub scaled_small : (s p : ℕ) → 0 < s → s < 2 ^ 53 → p < 1075 → 52 < 1075 - p
    → scaled s p ≡ None
scaled_small s p some lt down far =
    let test : nat_le 1075 p ≡ false = grind (arith, nat_tests, down) in
    let high : 2 ^ 53 ≤ 2 ^ (1075 - p) =
    pow-le-pow_right {n = 2} (omega arith) {i = 53} {j = 1075 - p} (omega (arith, far)) in
    let same : s % 2 ^ (1075 - p) ≡ s = mod-eq_of_lt (omega (arith, lt, high)) in
    let not_zero : (s == 0) ≡ false = grind (arith, nat_tests, some) in
    rw (test, same, not_zero) refl

pub none_holds : {A : Type 0} (P : A → Type 0) (o : Option A) → o ≡ None → IfSome o P
none_holds P None is = tt
none_holds P (Some x) is = absurd cc
