-- The octets of the keys of a bundle, as a loop adds them.
use Rattle.std.proofs.Common.{◌≡◌, ◌≤◌, ℕ, ◌+◌, ◌-◌, ◌^◌, List, [], ◌∷◌, length, map, min}
use Rattle.std.proofs.Common.{refl, sym, ap, ◌∙◌, arith}
use Rattle.std.specs.Prelude.{sum_by}
use Rattle.std.proofs.lemmas.List.Sums.{sum_by-cons}
use Rattle.std.proofs.Math.Nat.{min-eq_left}
use Rattle.spf_jwt.specs.Authority.{Authority}
use Rattle.spf_jwt.specs.Limits.{octets_in}

abbrev octets_of : Authority → ℕ
octets_of a = length a.jwk

abbrev pub octets_left : List Authority → ℕ
octets_left keys = sum_by octets_of keys

abbrev octets_at : List ℕ × Authority → ℕ
octets_at e = length e.1.jwk

sums : (keys : List (List ℕ × Authority))
    → octets_left (map (λ (e : List ℕ × Authority). e.1) keys) ≡ sum_by octets_at keys
sums [] = refl
sums (e ∷ keys) =
    sum_by-cons octets_of e.1 (map (λ (x : List ℕ × Authority). x.1) keys)
    ∙ ap (λ n. length e.1.jwk + n) (sums keys) ∙ sym (sum_by-cons octets_at e keys)

pub begun : (keys : List (List ℕ × Authority)) (left : List Authority)
    → left ≡ map (λ (e : List ℕ × Authority). e.1) keys
    → min (0 + octets_left left) (2 ^ 64 - 1) ≡ octets_in keys
begun keys left is =
    let none : 0 + octets_left left ≡ octets_left left = omega arith in
    ap (λ n. min n (2 ^ 64 - 1)) (none ∙ ap octets_left is ∙ sums keys)

pub ended : (total whole : ℕ) (left : List Authority) → total ≤ 2 ^ 64 - 1 → left ≡ []
    → min (total + octets_left left) (2 ^ 64 - 1) ≡ whole → total ≡ whole
ended total whole left small done is =
    let none : total + octets_left left ≡ total =
    ap (λ (xs : List Authority). total + octets_left xs) done ∙ (omega arith) in
    sym (ap (λ n. min n (2 ^ 64 - 1)) none ∙ min-eq_left small) ∙ is
