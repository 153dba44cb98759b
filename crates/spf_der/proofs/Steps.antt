-- What a step that found something says.
use Rattle.std.proofs.Common.{◌≡◌, ◌⊎◌, inl, inr, Bool, true, false, cond, Option, Some, None, refl}
use Rattle.std.proofs.Common.{ap, unwrap_or, ◌&&◌}
use Rattle.spf_io.specs.Option.{◌>>=◌}

-- which way a test went
pub chosen : {A : Type 0} (b : Bool) (x y z : A) → cond b x y ≡ z
    → ((b ≡ true) × (x ≡ z)) ⊎ ((b ≡ false) × (y ≡ z))
chosen true x y z e = inl (refl, e)
chosen false x y z e = inr (refl, e)

-- the two steps of a bind
pub bind_some : {A B : Type 0} (r : Option A) (f : A → Option B) (y : B) → (r >>= f) ≡ Some y
    → (x : A) × (r ≡ Some x) × (f x ≡ Some y)
bind_some None f y e = cc
bind_some (Some x) f y e = (x, refl, e)

-- what was found is the same, part by part
pub pair_parts : {A B : Type 0} (x y : A × B) → Some x ≡ Some y → (x.0 ≡ y.0) × (x.1 ≡ y.1)
pair_parts {A} {B} x y e = let p = ap (λ (o : Option (A × B)). unwrap_or o x) e in
    (ap (λ (z : A × B). z.0) p, ap (λ (z : A × B). z.1) p)

pub triple_parts : {A B C : Type 0} (x y : A × B × C) → Some x ≡ Some y
    → (x.0 ≡ y.0) × (x.1 ≡ y.1) × (x.2 ≡ y.2)
triple_parts {A} {B} {C} x y e = let p = ap (λ (o : Option (A × B × C)). unwrap_or o x) e in
    (ap (λ (z : A × B × C). z.0) p, ap (λ (z : A × B × C). z.1) p, ap (λ (z : A × B × C). z.2) p)

-- a test that had to pass, and one that had to fail
pub passed : {A : Type 0} (b : Bool) (x y : A) → cond b (Some x) None ≡ Some y
    → (b ≡ true) × (x ≡ y)
passed {A} true x y e = (refl, ap (λ (o : Option A). unwrap_or o x) e)
passed false x y e = cc

pub failed : {A : Type 0} (b : Bool) (x y : A) → cond b None (Some x) ≡ Some y
    → (b ≡ false) × (x ≡ y)
failed true x y e = cc
failed {A} false x y e = (refl, ap (λ (o : Option A). unwrap_or o x) e)

-- two tests that both passed
pub both_true : (a b : Bool) → (a && b) ≡ true → (a ≡ true) × (b ≡ true)
both_true true b is = (refl, is)
both_true false b is = cc
