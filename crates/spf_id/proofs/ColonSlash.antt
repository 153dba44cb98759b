-- `:/` in a text, by its first colon.
use Rattle.std.proofs.Common.{◌≡◌, ℕ, suc, ◌+◌, ◌<◌, Bool, true, false, cond, eqb, List, [], ◌∷◌}
use Rattle.std.proofs.Common.{length, drop, refl, sym, ap, ◌∙◌, arith, nat_eq, not}
use Rattle.std.specs.Prelude.{◌||◌, ◌==◌, codes}
use Rattle.std.specs.List.{after_first, position_or_len, starts_with}
use Rattle.std.proofs.lemmas.Bool.{eqb-true, eqb-false, ne_eqb}
use Rattle.spf_id.specs.Rule.{holds_colon_slash}

abbrev is_colon : ℕ → Bool
is_colon c = c == 58

-- a slash is next, or `:/` stands later
abbrev goes_on : List ℕ → Bool
goes_on after = starts_with nat_eq after (codes "/") || holds_colon_slash after

first_step : (b : Bool) (x : ℕ) (xs : List ℕ) → eqb x 58 ≡ b
    → (position_or_len is_colon xs < length xs
    → holds_colon_slash xs ≡ goes_on (after_first is_colon xs))
    → cond (not b) (1 + position_or_len is_colon xs) 0 < length (x ∷ xs)
    → holds_colon_slash (x ∷ xs)
    ≡ goes_on (drop (cond (not b) (1 + position_or_len is_colon xs) 0 + 1) (x ∷ xs))
first_step true x xs is more lt = let e : x ≡ 58 = eqb-true x 58 is in rw e refl
first_step false x xs is more lt =
    let n : 1 + position_or_len is_colon xs + 1 ≡ suc (position_or_len is_colon xs + 1) =
    omega arith in
    let apart : eqb 58 x ≡ false = ne_eqb 58 x (λ e. eqb-false x 58 is (sym e)) in
    rw (n, apart) (more (omega arith))

colon_first : (xs : List ℕ) → position_or_len is_colon xs < length xs
    → holds_colon_slash xs ≡ goes_on (after_first is_colon xs)
colon_first [] lt = absurd (omega arith)
colon_first (x ∷ xs) lt = first_step (eqb x 58) x xs refl (colon_first xs) lt

none_step : (b : Bool) (x : ℕ) (xs : List ℕ) → eqb x 58 ≡ b
    → (position_or_len is_colon xs ≡ length xs → holds_colon_slash xs ≡ false)
    → cond (not b) (1 + position_or_len is_colon xs) 0 ≡ length (x ∷ xs)
    → holds_colon_slash (x ∷ xs) ≡ false
none_step true x xs is more whole = absurd (omega arith)
none_step false x xs is more whole =
    let apart : eqb 58 x ≡ false = ne_eqb 58 x (λ e. eqb-false x 58 is (sym e)) in
    rw apart (more (omega arith))

pub colon_none : (xs : List ℕ) → position_or_len is_colon xs ≡ length xs
    → holds_colon_slash xs ≡ false
colon_none [] whole = refl
colon_none (x ∷ xs) whole = none_step (eqb x 58) x xs refl (colon_none xs) whole

-- the first colon is followed by a slash
pub colon_found : (xs after : List ℕ) → position_or_len is_colon xs < length xs
    → after ≡ after_first is_colon xs
    → starts_with nat_eq after (codes "/") ≡ true → holds_colon_slash xs ≡ true
colon_found xs after lt is slash = colon_first xs lt ∙ ap goes_on (sym is) ∙ rw slash refl

-- the first colon is followed by something else
pub colon_passed : (xs after : List ℕ) → position_or_len is_colon xs < length xs
    → after ≡ after_first is_colon xs
    → starts_with nat_eq after (codes "/") ≡ false → holds_colon_slash xs ≡ holds_colon_slash after
colon_passed xs after lt is other = colon_first xs lt ∙ ap goes_on (sym is) ∙ rw other refl
