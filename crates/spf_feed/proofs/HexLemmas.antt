-- Digits that are written two by two.
use Rattle.std.proofs.Common.{◌≡◌, ℕ, suc, ◌+◌, ◌*◌, ◌/◌, ◌%◌, ◌<◌, List, [], ◌∷◌, ◌++◌, length}
use Rattle.std.proofs.Common.{take, get_or, slice_index, slice_set, refl, sym, ap, ◌∙◌}
use Rattle.std.proofs.Common.{append_assoc, arith, length-set}
use Rattle.std.proofs.lemmas.List.{take_more_set}
use Rattle.std.proofs.Math.Seq.{take-suc}
use Rattle.hex.specs.Hex.{encode_with, encode_lower, lower_digits}

encoded_more : (t xs : List ℕ) (b : ℕ)
    → encode_with t (xs ++ b ∷ [])
    ≡ encode_with t xs ++ (slice_index t (b / 16) ∷ slice_index t (b % 16) ∷ [])
unfolding encode_with
encoded_more t [] b = refl
encoded_more t (x ∷ xs) b =
    ap (λ l. slice_index t (x / 16) ∷ slice_index t (x % 16) ∷ l) (encoded_more t xs b)

-- after one more octet
pub two_more : (octets out : List ℕ) (i d e : ℕ) → i < length octets
    → length out ≡ 2 * length octets → take (2 * i) out ≡ encode_lower (take i octets)
    → d ≡ slice_index lower_digits (get_or octets i 0 / 16)
    → e ≡ slice_index lower_digits (get_or octets i 0 % 16)
    → take (2 * (i + 1)) (slice_set (slice_set out (2 * i) d) (2 * i + 1) e)
    ≡ encode_lower (take (i + 1) octets)
two_more octets out i d e lt len so_far high low =
    let first = slice_set out (2 * i) d in
    let size : 2 * (i + 1) ≡ (2 * i + 1) + 1 = omega arith in
    let b = get_or octets i 0 in
    let outs : take (2 * (i + 1)) (slice_set first (2 * i + 1) e)
    ≡ (take (2 * i) out ++ d ∷ []) ++ e ∷ [] =
    ap (λ n. take n (slice_set first (2 * i + 1) e)) size
    ∙ take_more_set first (2 * i + 1) e (omega (arith, lt, len, length-set out (2 * i) d))
    ∙ ap (λ (l : List ℕ). l ++ e ∷ []) (take_more_set out (2 * i) d (omega (arith, lt, len))) in
    outs ∙ append_assoc (take (2 * i) out) (d ∷ []) (e ∷ [])
    ∙ (λ j. so_far j ++ (high j ∷ low j ∷ [])) ∙ sym (encoded_more lower_digits (take i octets) b)
    ∙ ap encode_lower (sym (ap (λ n. take n octets) (plus i) ∙ take-suc octets i 0 lt))
  where
    plus : (n : ℕ) → n + 1 ≡ suc n
    plus n = omega arith
