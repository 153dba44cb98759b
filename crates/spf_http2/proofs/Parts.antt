-- Parts of a buffer.
use Rattle.std.proofs.Common.{◌≡◌, ◌∙◌, ℕ, ◌+◌, ◌-◌, ◌≤◌, List, ◌++◌, length, take, drop}
use Rattle.std.proofs.Common.{slice_range, sym, ap, arith, le_refl, length-take-le}
use Rattle.std.proofs.lemmas.List.{take-take, drop-drop, drop-take}
use Rattle.std.proofs.lemmas.Slice.{between_is, take-put_mid_below}
use borrow.Rule.Slice.PartMut.{put_mid, post_of}
use lib.Seq.{take-add, take-append-le, drop-append-le}
use Rattle.std.proofs.Common.{drop_at}

-- what begins a part, behind its first octets
pub range_take : (xs : List ℕ) (s e k p : ℕ) → s + k + p ≤ e
    → slice_range xs (s + k) (s + k + p) ≡ take p (drop k (slice_range xs s e))
range_take xs s e k p le =
    let m : ℕ = e - (s + k) in
    let size : e - s ≡ k + m = omega arith in
    let count : (s + k + p) - (s + k) ≡ p = omega arith in
    ap (λ n. take n (drop (s + k) xs)) count ∙ ap (take p) (sym (drop-drop k s xs))
    ∙ sym (take-take p m (drop k (drop s xs)) (omega arith))
    ∙ ap (take p) (sym (drop-take k m (drop s xs)))
    ∙ ap (λ n. take p (drop k (take n (drop s xs)))) (sym size)

-- what is left of a part
pub range_drop : (xs : List ℕ) (s a e k : ℕ) → a ≡ s + k → a ≤ e
    → slice_range xs a e ≡ drop k (slice_range xs s e)
range_drop xs s a e k is le =
    let m : ℕ = e - a in
    let size : e - s ≡ k + m = omega arith in
    ap (λ n. take m (drop n xs)) is ∙ ap (take m) (sym (drop-drop k s xs))
    ∙ sym (drop-take k m (drop s xs)) ∙ ap (λ n. drop k (take n (drop s xs))) (sym size)

-- a part in front of what was written
pub range_before : (xs ys : List ℕ) (s a k : ℕ) → a ≤ length xs
    → slice_range (put_mid a k xs ys) s a ≡ slice_range xs s a
range_before xs ys s a k within =
    between_is (put_mid a k xs ys) s a
    ∙ ap (drop s) (take-put_mid_below a k xs ys a (le_refl a) within) ∙ sym (between_is xs s a)

slice_range-put_mid : (a k n : ℕ) (xs ys : List ℕ) → a ≤ length xs → n ≤ length ys
    → take n (drop a (put_mid a k xs ys)) ≡ take n ys
slice_range-put_mid a k n xs ys within fits =
    let after = post_of a k xs in
    ap (take n) (drop_at (take a xs) (ys ++ after) a (length-take-le a xs within))
    ∙ take-append-le n ys after fits

front_put : (a k n : ℕ) (xs ys : List ℕ) → a ≤ length xs → n ≤ length ys
    → take (a + n) (put_mid a k xs ys) ≡ take a xs ++ take n ys
front_put a k n xs ys within fits =
    take-add a n (put_mid a k xs ys)
    ∙ ap (λ (l : List ℕ). l ++ take n (drop a (put_mid a k xs ys)))
    (take-put_mid_below a k xs ys a (le_refl a) within)
    ∙ ap (λ (l : List ℕ). take a xs ++ l) (slice_range-put_mid a k n xs ys within fits)

-- a part, and what was written behind it
pub range_grown : (xs ys : List ℕ) (s a k n : ℕ) → s ≤ a → a ≤ length xs → n ≤ length ys
    → slice_range (put_mid a k xs ys) s (a + n) ≡ slice_range xs s a ++ take n ys
range_grown xs ys s a k n from within fits =
    let size : length (take a xs) ≡ a = length-take-le a xs within in
    between_is (put_mid a k xs ys) s (a + n) ∙ ap (drop s) (front_put a k n xs ys within fits)
    ∙ drop-append-le s (take a xs) (take n ys) (omega arith)
    ∙ ap (λ (l : List ℕ). l ++ take n ys) (sym (between_is xs s a))

-- the same of the items `zs` of a buffer that held `xs`, of which the part was lent as `ys`
pub range_kept : (zs xs ys new : List ℕ) (s e a k : ℕ) → zs ≡ put_mid a k ys new → ys ≡ xs
    → a ≤ length ys → e ≤ a → slice_range zs s e ≡ slice_range xs s e
range_kept zs xs ys new s e a k is lent within before =
    ap (λ (l : List ℕ). slice_range l s e) is ∙ between_is (put_mid a k ys new) s e
    ∙ ap (drop s) (take-put_mid_below a k ys new e before within) ∙ sym (between_is ys s e)
    ∙ ap (λ (l : List ℕ). slice_range l s e) lent

pub range_more : (zs xs ys new : List ℕ) (s a k n : ℕ) → zs ≡ put_mid a k ys new → ys ≡ xs
    → s ≤ a → a ≤ length ys → n ≤ length new
    → slice_range zs s (a + n) ≡ slice_range xs s a ++ take n new
range_more zs xs ys new s a k n is lent from within fits =
    ap (λ (l : List ℕ). slice_range l s (a + n)) is ∙ range_grown ys new s a k n from within fits
    ∙ ap (λ (l : List ℕ). slice_range l s a ++ take n new) lent
