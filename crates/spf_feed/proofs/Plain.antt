-- Texts without a line feed.
use Rattle.std.proofs.Common.{◌≡◌, ◌≢◌, ℕ, zero, suc, ◌+◌, ◌/◌, ◌%◌, ◌<◌, Bool, true, false, not}
use Rattle.std.proofs.Common.{cond, ℤ, pos, negsuc, List, [], ◌∷◌, ◌++◌, refl, sym, ap, ◌∙◌, arith}
use Rattle.std.specs.Prelude.{◌==◌, nat_lt, slice_index, decimal}
use Rattle.std.specs.Fmt.{digit_glyph, digits_onto, digits, signed_decimal}
use Rattle.std.specs.List.{list_all, flat_map, AllByRecursion}
use Rattle.std.proofs.lemmas.Bool.{and_parts, and_from, eqb-true, ne_eqb, true≢false}
use Rattle.std.proofs.lemmas.List.Elements.{All-weaker}
use Rattle.std.proofs.lemmas.List.Folds.{list_all-append}
use Rattle.std.proofs.lemmas.List.Sums.{AllPass-from_list_all}
use Rattle.hex.specs.Hex.{encode_lower, encode_with, lower_digits}
use Rattle.spf_feed.specs.OneLine.{HasNoFeed, IsLine}

-- whether an octet is not a line feed
abbrev pub is_plain : ℕ → Bool
is_plain c = not (c == 10)

-- a text without a line feed, as a test that computes
abbrev pub Plain : List ℕ → Type 0
Plain text = list_all is_plain text ≡ true

-- what passes a test that a line feed fails is not a line feed
no_feed : (test : ℕ → Bool) → test 10 ≡ false → (c : ℕ) → test c ≡ true → is_plain c ≡ true
no_feed test refused c passed = by (c == 10) refl
  where
    by : (b : Bool) → (c == 10) ≡ b → not b ≡ true
    by false is = refl
    by true is =
        absurd (let at : c ≡ 10 = eqb-true c 10 is in
        true≢false (sym passed ∙ ap test at ∙ refused))

plain_is : (c : ℕ) → is_plain c ≡ true → c ≢ 10
plain_is c passed at = true≢false (sym passed ∙ ap is_plain at)

above : (c : ℕ) → 10 < c → is_plain c ≡ true
above c high = ap not (ne_eqb c 10 (λ at. absurd (omega arith)))

-- ---- texts after one another

-- one text after another
pub behind : (xs ys : List ℕ) → Plain xs → Plain ys → Plain (xs ++ ys)
behind xs ys p q =
    list_all-append is_plain xs ys ∙ and_from (list_all is_plain xs) (list_all is_plain ys) p q

-- a text whose members pass such a test
pub tested : (test : ℕ → Bool) → test 10 ≡ false → (xs : List ℕ) → list_all test xs ≡ true
    → Plain xs
tested test refused [] e = refl
tested test refused (x ∷ xs) e =
    let parts = and_parts (test x) (list_all test xs) e in
    and_from (is_plain x) (list_all is_plain xs) (no_feed test refused x parts.0)
    (tested test refused xs parts.1)

-- the texts of members
pub texts_plain : {X : Type 0} (text : X → List ℕ) (P : X → Type 0)
    → ((x : X) → P x → Plain (text x)) → (xs : List X) → AllByRecursion P xs
    → Plain (flat_map text xs)
texts_plain text P each [] all = refl
texts_plain text P each (x ∷ xs) all =
    behind (text x) (flat_map text xs) (each x all.0) (texts_plain text P each xs all.1)

-- ---- numbers

glyph_plain : (d : ℕ) → is_plain (digit_glyph false d) ≡ true
glyph_plain d = by (nat_lt d 10)
  where
    by : (b : Bool) → is_plain (cond b (48 + d) (87 + d)) ≡ true
    by true = above (48 + d) (omega arith)
    by false = above (87 + d) (omega arith)

either : (b : Bool) (xs ys : List ℕ) → Plain xs → Plain ys → Plain (cond b xs ys)
either true xs ys p q = p
either false xs ys p q = q

onto_plain : (k n : ℕ) (text : List ℕ) → Plain text → Plain (digits_onto k 10 false n text)
onto_plain zero n text p = p
onto_plain (suc k) n text p =
    let more : Plain (digit_glyph false (n % 10) ∷ text) =
    and_from (is_plain (digit_glyph false (n % 10))) (list_all is_plain text) (glyph_plain (n % 10))
    p in
    either (n / 10 == 0) (digit_glyph false (n % 10) ∷ text)
    (digits_onto k 10 false (n / 10) (digit_glyph false (n % 10) ∷ text)) more
    (onto_plain k (n / 10) (digit_glyph false (n % 10) ∷ text) more)

-- the digits of a number
pub decimal_plain : (n : ℕ) → Plain (decimal n)
unfolding digits
decimal_plain n = onto_plain 64 n [] refl

pub signed_plain : (z : ℤ) → Plain (signed_decimal z)
signed_plain (pos n) = decimal_plain n
signed_plain (negsuc n) = decimal_plain (suc n)

-- ---- hexadecimal

-- a member of a plain text, and 0 where there is none
index_plain : (xs : List ℕ) (i : ℕ) → Plain xs → is_plain (slice_index xs i) ≡ true
index_plain [] i p = refl
index_plain (x ∷ xs) zero p = (and_parts (is_plain x) (list_all is_plain xs) p).0
index_plain (x ∷ xs) (suc i) p =
    index_plain xs i (and_parts (is_plain x) (list_all is_plain xs) p).1

with_plain : (t xs : List ℕ) → Plain t → Plain (encode_with t xs)
unfolding encode_with
with_plain t [] p = refl
with_plain t (x ∷ xs) p =
    and_from (is_plain (slice_index t (x / 16))) _ (index_plain t (x / 16) p)
    (and_from (is_plain (slice_index t (x % 16))) (list_all is_plain (encode_with t xs))
    (index_plain t (x % 16) p) (with_plain t xs p))

-- whatever the numbers are
pub hex_plain : (xs : List ℕ) → Plain (encode_lower xs)
hex_plain xs = with_plain lower_digits xs refl

-- ---- lines

no_feed_in : (xs : List ℕ) → Plain xs → HasNoFeed xs
no_feed_in xs p =
    All-weaker (λ (c : ℕ). is_plain c ≡ true) (λ (c : ℕ). c ≢ 10) plain_is xs
    (AllPass-from_list_all is_plain xs p)

-- a plain text and a line feed are a line
pub ended : (text body : List ℕ) → text ≡ body ++ 10 ∷ [] → Plain body → IsLine text
ended text body is p = record { body = body; text_is = is; plain = no_feed_in body p }
