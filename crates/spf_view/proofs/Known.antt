-- Tests, with the equation that each answer gives.
use Rattle.std.proofs.Common.{◌≡◌, Bool, true, false, not, ◌&&◌, refl}

-- a test is true or false
pub data Known (b : Bool) : Type 0 where
  Yes : b ≡ true → Known b
  No : b ≡ false → Known b

pub known : (b : Bool) → Known b
known true = Yes refl
known false = No refl

pub both_true : (b c : Bool) → (b && c) ≡ true → (b ≡ true) × (c ≡ true)
both_true true c e = (refl, e)
both_true false c e = cc

pub and_none : (b : Bool) → (b && false) ≡ false
and_none true = refl
and_none false = refl

pub and_true : (b : Bool) → (b && true) ≡ b
and_true true = refl
and_true false = refl

pub and_assoc : (a b c : Bool) → (a && (b && c)) ≡ ((a && b) && c)
and_assoc true b c = refl
and_assoc false b c = refl

pub off : (b : Bool) → not b ≡ true → b ≡ false
off true e = cc
off false e = refl

pub on : (b : Bool) → not b ≡ false → b ≡ true
on true e = refl
on false e = cc
