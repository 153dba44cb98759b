-- The first line feed, as `memchr` finds it, and the line that it ends.
use Rattle.std.proofs.Common.{◌≡◌, ◌≢◌, ◌∙◌, refl, sym, ap, ℕ, ◌+◌, ◌<◌, ◌≤◌, ◌⊎◌, inl, inr}
use Rattle.std.proofs.Common.{Bool}
use Rattle.std.proofs.Common.{true, false, cond, not, List, [], ◌∷◌, ◌++◌, length, take, drop}
use Rattle.std.proofs.Common.{Option}
use Rattle.std.proofs.Common.{Some, None, arith, eqb, subst}
use Rattle.std.specs.List.{before_first, after_first, position_or_len}
use Rattle.std.proofs.lemmas.List.Folds.{prefix_len-append}
use Rattle.std.proofs.lemmas.List.Sums.{position_or_len_is, fails_before_first}
use Rattle.std.proofs.lemmas.List.Sums.{prefix_len-le-length}
use Rattle.std.proofs.lemmas.List.Splits.{slice_split_none, slice_split_first}
use Rattle.std.proofs.lemmas.List.{take_all, drop_all, take-append-le, drop-append-le}
use Rattle.std.proofs.lemmas.Bool.{false_from_ne_true, eqb-true}
use Rattle.spf_io.proofs.Splits.{split_shape}
use Rattle.memchr.specs.Find.{IsFirstByte, is_byte}
use Rattle.spf_gate.specs.Lines.{is_feed, lines_of, without_empty_end}
use Rattle.spf_gate.specs.Reading.{HasNoFeed, IsFirstFeed}

-- where the first line feed stands
pub first_feed : (xs : List ℕ) (r : Option ℕ) → IsFirstByte (is_byte 10) xs r → IsFirstFeed xs r
first_feed xs None h =
    position_or_len_is is_feed xs (length xs) 0 (omega arith)
    (λ k lt. false_from_ne_true _ (h k (omega arith) lt)) (λ lt. absurd (omega arith))
first_feed xs (Some k) h = (
  position_or_len_is is_feed xs k 0 (omega (arith, h.0.high))
      (λ j lt. false_from_ne_true _ (h.0.before j (omega arith) lt)) (λ lt. h.1),
  h.0.high,
)

second : (b : Bool) (x y : ℕ) → (b ≡ true → ⊥) → cond b x y ≡ y
second true x y apart = absurd (apart refl)
second false x y apart = refl

at_least : (b : Bool) (x y n : ℕ) → n ≤ x → n ≤ y → n ≤ cond b x y
at_least true x y n first second = first
at_least false x y n first second = second

-- more bytes leave the first line feed where it is
pub position_in : (xs ys : List ℕ) (n : ℕ) → IsFirstFeed xs (Some n)
    → position_or_len is_feed (xs ++ ys) ≡ n
position_in xs ys n h =
    prefix_len-append (λ c. not (is_feed c)) xs ys
    ∙ second (eqb (position_or_len is_feed xs) (length xs)) _ _ (λ is.
    let same = eqb-true _ _ is in absurd (omega (arith, h.0, h.1, same)))
    ∙ h.0

-- and it stands after bytes that have none
pub position_out : (xs ys : List ℕ) → HasNoFeed xs
    → length xs ≤ position_or_len is_feed (xs ++ ys)
position_out xs ys none =
    subst (λ (n : ℕ). length xs ≤ n) (sym (prefix_len-append (λ c. not (is_feed c)) xs ys))
    (at_least (eqb (position_or_len is_feed xs) (length xs)) _ _ (length xs) (omega arith)
    (omega (arith, none)))

one_piece : (xs : List ℕ) → xs ≢ [] → without_empty_end (xs ∷ []) ≡ xs ∷ []
one_piece [] some = absurd (some refl)
one_piece (x ∷ xs) some = refl

-- bytes begin with the line before their first line feed, or are one line
pub first_line : (xs : List ℕ) → xs ≢ []
    → lines_of xs ≡ before_first is_feed xs ∷ lines_of (after_first is_feed xs)
unfolding lines_of
first_line xs some =
    let le = prefix_len-le-length (λ c. not (is_feed c)) xs in
    let cases : (position_or_len is_feed xs < length xs)
    ⊎ (position_or_len is_feed xs ≡ length xs) = grind arith in
    elim cases [
      | inl lt ↦
          let p = split_shape is_feed (after_first is_feed xs) in
          rw (slice_split_first is_feed xs 0 lt, p.2) refl
      | inr whole ↦
          let none = slice_split_none is_feed xs
          (λ k d lt. fails_before_first is_feed xs k d (omega (arith, lt, whole))) in
          rw (
            none,
            one_piece xs some,
            take_all (position_or_len is_feed xs) xs (omega (arith, whole)),
            drop_all (position_or_len is_feed xs + 1) xs (omega (arith, whole)),
          ) refl
    ]

longer : (xs ys : List ℕ) (n : ℕ) → n < length xs → (xs ++ ys) ≢ []
longer [] ys n lt = absurd (omega (arith, lt))
longer (x ∷ xs) ys n lt = λ is. absurd (cc)

-- a line that ends with a line feed, and more bytes
pub fed_line : (xs ys : List ℕ) (n : ℕ) → IsFirstFeed xs (Some n)
    → lines_of (xs ++ ys) ≡ take n xs ∷ lines_of (drop (n + 1) xs ++ ys)
fed_line xs ys n h =
    first_line (xs ++ ys) (longer xs ys n h.1)
    ∙ rw (
      position_in xs ys n h,
      take-append-le n xs ys (omega (arith, h.1)),
      drop-append-le (n + 1) xs ys (omega (arith, h.1)),
    ) refl

-- bytes without a line feed are a line
pub whole_line : (xs : List ℕ) → HasNoFeed xs → xs ≢ [] → lines_of xs ≡ xs ∷ []
unfolding lines_of
whole_line xs none some =
    ap without_empty_end (slice_split_none is_feed xs
    (λ k d lt. fails_before_first is_feed xs k d (omega (arith, lt, none))))
    ∙ one_piece xs some

pub no_lines : lines_of [] ≡ []
unfolding lines_of
no_lines = refl
