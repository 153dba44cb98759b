-- No frame begins another.
use Rattle.std.proofs.Common.{◌≡◌, ℕ, List, [], ◌∷◌, ◌++◌, length, refl, sym, ap, ◌∙◌, append_assoc}
use Rattle.std.proofs.Common.{arith, take, drop, take_at, drop_at}
use Rattle.std.specs.List.{flat_map, AllByRecursion}
use Rattle.std.proofs.lemmas.List.Concat.{flat_map-cons}
use Rattle.std.specs.Int.{w32, to_be_bytes, from_be_bytes}
use Rattle.std.proofs.lemmas.Nat.{from_be_bytes-to_be_bytes_4}
use Rattle.spf_view.specs.Frames.{sized, FitsFrame, raw_text}

pub parts_same : (a x b y : List ℕ) → length a ≡ length b → a ++ x ≡ b ++ y → (a ≡ b) × (x ≡ y)
parts_same a x b y len e = (
  sym (take_at a x (length b) len) ∙ ap (take (length b)) e ∙ take_at b y (length b) refl,
  sym (drop_at a x (length b) len) ∙ ap (drop (length b)) e ∙ drop_at b y (length b) refl,
)

pub sized_same : (p x q y : List ℕ) → FitsFrame p → FitsFrame q → sized p ++ x ≡ sized q ++ y
    → (p ≡ q) × (x ≡ y)
unfolding sized
sized_same p x q y short short' e =
    let all : to_be_bytes w32 (length p) ++ (p ++ x) ≡ to_be_bytes w32 (length q) ++ (q ++ y) =
    sym (append_assoc (to_be_bytes w32 (length p)) p x) ∙ e
    ∙ append_assoc (to_be_bytes w32 (length q)) q y in
    let same = parts_same (to_be_bytes w32 (length p)) (p ++ x) (to_be_bytes w32 (length q))
    (q ++ y) refl all in
    let len : length p ≡ length q =
    sym (from_be_bytes-to_be_bytes_4 (length p) (omega arith)) ∙ ap (from_be_bytes w32) same.0
    ∙ from_be_bytes-to_be_bytes_4 (length q) (omega arith) in
    parts_same p x q y len same.1

pub raw_same : (k : ℕ) (p x : List ℕ) (j : ℕ) (q y : List ℕ) → FitsFrame p → FitsFrame q
    → raw_text k p ++ x ≡ raw_text j q ++ y → (k ≡ j) × (p ≡ q) × (x ≡ y)
raw_same k p x j q y short short' e =
    let kinds : k ≡ j = cc in
    let tails : sized p ++ x ≡ sized q ++ y = cc in
    let same = sized_same p x q y short short' tails in
    (kinds, same.0, same.1)

-- a frame as its kind and its payload
abbrev pub text_of : ℕ × List ℕ → List ℕ
text_of f = raw_text f.0 f.1

pub frames_same : (xs ys : List (ℕ × List ℕ)) → AllByRecursion (λ f. FitsFrame f.1) xs
    → AllByRecursion (λ f. FitsFrame f.1) ys → flat_map text_of xs ≡ flat_map text_of ys → xs ≡ ys
frames_same [] [] a b same = refl
frames_same [] (y ∷ ys) a b same = let e = same ∙ flat_map-cons text_of y ys in absurd cc
frames_same (x ∷ xs) [] a b same = let e = sym (flat_map-cons text_of x xs) ∙ same in absurd cc
frames_same (x ∷ xs) (y ∷ ys) a b same =
    let parts =
    raw_same x.0 x.1 (flat_map text_of xs) y.0 y.1 (flat_map text_of ys) a.0 b.0
    (sym (flat_map-cons text_of x xs) ∙ same ∙ flat_map-cons text_of y ys) in
    let others = frames_same xs ys a.1 b.1 parts.2 in
    λ i. (parts.0 i, parts.1 i) ∷ others i
