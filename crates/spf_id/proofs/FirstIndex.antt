-- The first octet of a kind, as `memchr` finds it, and the parts that it cuts.
use Rattle.std.proofs.Common.{◌≡◌, ℕ, ◌<◌, ◌≤◌, Bool, List, [], ◌∷◌, length, Option, Some, None}
use Rattle.std.proofs.Common.{arith}
use Rattle.std.specs.Prelude.{MatchOption, ◌==◌}
use Rattle.std.specs.List.{before_first, position_or_len, slice_split}
use Rattle.std.proofs.lemmas.List.Sums.{position_or_len_is, fails_before_first}
use Rattle.std.proofs.lemmas.List.{take_all, length-take-le}
use Rattle.std.proofs.lemmas.List.Splits.{slice_split_none}
use Rattle.std.proofs.lemmas.Bool.{false_from_ne_true}
use Rattle.memchr.specs.Find.{IsFirstByte, is_byte}

-- where the first octet c stands
pub first_index : (c : ℕ) (xs : List ℕ) (r : Option ℕ) → IsFirstByte (is_byte c) xs r
    → MatchOption r (position_or_len (λ x. x == c) xs ≡ length xs)
    (λ k. (k < length xs) × (position_or_len (λ x. x == c) xs ≡ k))
first_index c xs None h =
    position_or_len_is (λ x. x == c) xs (length xs) 0 (omega arith)
    (λ k lt. false_from_ne_true _ (h k (omega arith) lt)) (λ lt. absurd (omega arith))
first_index c xs (Some k) h = (
  h.0.high,
  position_or_len_is (λ x. x == c) xs k 0 (omega (arith, h.0.high))
      (λ j lt. false_from_ne_true _ (h.0.before j (omega arith) lt)) (λ lt. h.1),
)

-- where no octet is of the kind, the part before the first is the whole
pub front_whole : (p : ℕ → Bool) (xs : List ℕ) → position_or_len p xs ≡ length xs
    → before_first p xs ≡ xs
front_whole p xs whole = take_all (position_or_len p xs) xs (omega arith)

pub front_length : (p : ℕ → Bool) (xs : List ℕ) → position_or_len p xs ≤ length xs
    → length (before_first p xs) ≡ position_or_len p xs
front_length p xs le = length-take-le (position_or_len p xs) xs le

-- and so is the one part
pub split_whole : (p : ℕ → Bool) (xs : List ℕ) → position_or_len p xs ≡ length xs
    → slice_split p xs ≡ xs ∷ []
split_whole p xs whole = slice_split_none p xs (λ k d lt. fails_before_first p xs k d (omega arith))
