-- Rules in order: a value, or the first rule that is broken.
use Rattle.std.specs.Prelude.{◌≡◌, ℕ, zero, suc, Bool, List, [], ◌∷◌, Result, Ok, Err}
use Rattle.std.specs.Bool.{MatchBool}

-- a rule, and then one that depends on its value
infixl 10 ◌>>=◌
abbrev pub ◌>>=◌ : {A B E : Type 0} → Result A E → (A → Result B E) → Result B E
(Ok x) >>= f = f x
(Err e) >>= f = Err e

-- the same result, with the error converted
abbrev pub broken_as : {A E F : Type 0} → (E → F) → Result A E → Result A F
broken_as f (Ok x) = Ok x
broken_as f (Err e) = Err (f e)

-- What a function returned, seen by view, is what
-- the rules say, unless it says that memory ran out.
abbrev pub Gives : {X Y E : Type 0} → (E → Bool) → (X → Y) → Result X E → Result Y E → Type 0
Gives memory view (Ok x) rule = rule ≡ Ok (view x)
Gives memory view (Err e) rule = MatchBool (memory e) (Unit {0}) (rule ≡ Err e)

-- a rule for each member, in order: the values, or the first broken rule
abbrev pub each : {A B E : Type 0} → (A → Result B E) → List A → Result (List B) E
each f [] = Ok []
each f (x ∷ xs) = f x >>= λ y. each f xs >>= λ ys. Ok (y ∷ ys)

-- A rule for each of the pieces whose concatenation the bytes are, at most `n` of them: the values,
-- or the first broken rule, which is `spent` where bytes are left after `n` pieces.
abbrev pub many : {A E : Type 0} → (List ℕ → Result (A × List ℕ) E) → E → ℕ → List ℕ
    → Result (List A) E
many one spent n [] = Ok []
many one spent zero (b ∷ bytes) = Err spent
many one spent (suc n) (b ∷ bytes) =
    one (b ∷ bytes) >>= λ found. many one spent n found.1 >>= λ others. Ok (found.0 ∷ others)
