-- The nine octets of a header.
use Rattle.std.proofs.Common.{◌≡◌, ◌∙◌, ℕ, ◌+◌, ◌<◌, ◌≤◌, ◌^◌, List, [], ◌∷◌, ◌++◌, length, drop}
use Rattle.std.proofs.Common.{get_or, zero, suc, Some, None, refl}
use Rattle.std.proofs.Common.{sym, ap, arith, Bool, true, false}
use Rattle.std.specs.Prelude.{slice_index_or, IsTrue, nat_le}
use Rattle.std.specs.Int.{w32, to_be_bytes, from_be_bytes}
use Rattle.std.proofs.Common.{take, take-append-drop, append_assoc}
use Rattle.std.proofs.lemmas.List.{drop-drop}
use Rattle.std.proofs.lemmas.Nat.{be_bytes_4}
use lib.Seq.{drop-append-le}
use Rattle.spf_http2.specs.Reading.{HasGrown}
use Rattle.std.proofs.lemmas.Bool.Decides.{nat_tests}
use Rattle.spf_http2.specs.declared.header.FrameHeader.{FrameHeader}
use Rattle.spf_http2.specs.Frames.{header_text, header_at, is_told}
use Rattle.spf_http2.specs.Frames.{IsShort}

abbrev pub IsBytes : List ℕ → Type 0
IsBytes bytes = (i : ℕ) → get_or bytes i 0 < 256

-- what nine octets say
abbrev pub said_by : List ℕ → FrameHeader
said_by xs = record {
  length = from_be_bytes w32 (0 ∷ slice_index_or xs 0 0 ∷ slice_index_or xs 1 0
      ∷ slice_index_or xs 2 0 ∷ []);
  kind = slice_index_or xs 3 0;
  flags = slice_index_or xs 4 0;
  word = from_be_bytes w32 (slice_index_or xs 5 0 ∷ slice_index_or xs 6 0 ∷ slice_index_or xs 7 0
      ∷ slice_index_or xs 8 0 ∷ []);
}

pub no_header : (xs : List ℕ) → length xs < 9 → header_at xs ≡ None
unfolding header_at
no_header [] lt = refl
no_header (a ∷ []) lt = refl
no_header (a ∷ b ∷ []) lt = refl
no_header (a ∷ b ∷ c ∷ []) lt = refl
no_header (a ∷ b ∷ c ∷ d ∷ []) lt = refl
no_header (a ∷ b ∷ c ∷ d ∷ e ∷ []) lt = refl
no_header (a ∷ b ∷ c ∷ d ∷ e ∷ f ∷ []) lt = refl
no_header (a ∷ b ∷ c ∷ d ∷ e ∷ f ∷ g ∷ []) lt = refl
no_header (a ∷ b ∷ c ∷ d ∷ e ∷ f ∷ g ∷ h ∷ []) lt = refl
no_header (a ∷ b ∷ c ∷ d ∷ e ∷ f ∷ g ∷ h ∷ i ∷ rest) lt = absurd (omega (arith, lt))

pub some_header : (xs : List ℕ) → 9 ≤ length xs → header_at xs ≡ Some (said_by xs)
unfolding header_at
some_header [] le = absurd (omega (arith, le))
some_header (a ∷ []) le = absurd (omega (arith, le))
some_header (a ∷ b ∷ []) le = absurd (omega (arith, le))
some_header (a ∷ b ∷ c ∷ []) le = absurd (omega (arith, le))
some_header (a ∷ b ∷ c ∷ d ∷ []) le = absurd (omega (arith, le))
some_header (a ∷ b ∷ c ∷ d ∷ e ∷ []) le = absurd (omega (arith, le))
some_header (a ∷ b ∷ c ∷ d ∷ e ∷ f ∷ []) le = absurd (omega (arith, le))
some_header (a ∷ b ∷ c ∷ d ∷ e ∷ f ∷ g ∷ []) le = absurd (omega (arith, le))
some_header (a ∷ b ∷ c ∷ d ∷ e ∷ f ∷ g ∷ h ∷ []) le = absurd (omega (arith, le))
some_header (a ∷ b ∷ c ∷ d ∷ e ∷ f ∷ g ∷ h ∷ i ∷ rest) le = refl

four_small : (a b c d : ℕ) → a < 256 → b < 256 → c < 256 → d < 256
    → IsBytes (a ∷ b ∷ c ∷ d ∷ [])
four_small a b c d pa pb pc pd zero = pa
four_small a b c d pa pb pc pd (suc zero) = pb
four_small a b c d pa pb pc pd (suc (suc zero)) = pc
four_small a b c d pa pb pc pd (suc (suc (suc zero))) = pd
four_small a b c d pa pb pc pd (suc (suc (suc (suc i)))) = omega arith

back : (a b c d : ℕ) → a < 256 → b < 256 → c < 256 → d < 256
    → to_be_bytes w32 (from_be_bytes w32 (a ∷ b ∷ c ∷ d ∷ [])) ≡ a ∷ b ∷ c ∷ d ∷ []
back a b c d pa pb pc pd =
    be_bytes_4 (a ∷ b ∷ c ∷ d ∷ []) (from_be_bytes w32 (a ∷ b ∷ c ∷ d ∷ [])) refl
    (four_small a b c d pa pb pc pd) refl

-- the octets are the text of the header that they say
pub said_text : (xs : List ℕ) → 9 ≤ length xs → IsBytes xs
    → xs ≡ header_text (said_by xs) ++ drop 9 xs
unfolding header_text
said_text [] le small = absurd (omega (arith, le))
said_text (a ∷ []) le small = absurd (omega (arith, le))
said_text (a ∷ b ∷ []) le small = absurd (omega (arith, le))
said_text (a ∷ b ∷ c ∷ []) le small = absurd (omega (arith, le))
said_text (a ∷ b ∷ c ∷ d ∷ []) le small = absurd (omega (arith, le))
said_text (a ∷ b ∷ c ∷ d ∷ e ∷ []) le small = absurd (omega (arith, le))
said_text (a ∷ b ∷ c ∷ d ∷ e ∷ f ∷ []) le small = absurd (omega (arith, le))
said_text (a ∷ b ∷ c ∷ d ∷ e ∷ f ∷ g ∷ []) le small = absurd (omega (arith, le))
said_text (a ∷ b ∷ c ∷ d ∷ e ∷ f ∷ g ∷ h ∷ []) le small = absurd (omega (arith, le))
said_text (a ∷ b ∷ c ∷ d ∷ e ∷ f ∷ g ∷ h ∷ i ∷ rest) le small =
    let first : drop 1 (to_be_bytes w32 (from_be_bytes w32 (0 ∷ a ∷ b ∷ c ∷ []))) ≡ a ∷ b ∷ c ∷ [] =
    ap (drop 1) (back 0 a b c (omega arith) (small 0) (small 1) (small 2)) in
    let last : to_be_bytes w32 (from_be_bytes w32 (f ∷ g ∷ h ∷ i ∷ [])) ≡ f ∷ g ∷ h ∷ i ∷ [] =
    back f g h i (small 5) (small 6) (small 7) (small 8) in
    sym (
    ap (λ (l : List ℕ). (l ++ d ∷ e ∷ to_be_bytes w32 (from_be_bytes w32 (f ∷ g ∷ h ∷ i ∷ [])))
    ++ rest) first
    ∙ ap (λ (l : List ℕ). (a ∷ b ∷ c ∷ d ∷ e ∷ l) ++ rest) last
    )

-- ---- what octets tell

pub short_header : (xs : List ℕ) → length xs < 9 → IsShort xs
short_header xs lt =
    let none = no_header xs lt in
    record { missing = rw none lt; allowed = rw none refl }

pub told_header : (xs : List ℕ) → IsTrue (is_told xs) → 9 ≤ length xs
told_header xs told = told_if (nat_le 9 (length xs)) refl
  where
    told_if : (b : Bool) → nat_le 9 (length xs) ≡ b → 9 ≤ length xs
    told_if true is = grind (arith, nat_tests, is)
    told_if false is =
        let lt : length xs < 9 = grind (arith, nat_tests, is) in
        let none = no_header xs lt in
        let untold : is_told xs ≡ false = rw none is in
        absurd cc

header_more : (xs ys : List ℕ) (h : FrameHeader) → header_at xs ≡ Some h
    → header_at (xs ++ ys) ≡ Some h
unfolding header_at
header_more [] ys h is = absurd cc
header_more (a ∷ []) ys h is = absurd cc
header_more (a ∷ b ∷ []) ys h is = absurd cc
header_more (a ∷ b ∷ c ∷ []) ys h is = absurd cc
header_more (a ∷ b ∷ c ∷ d ∷ []) ys h is = absurd cc
header_more (a ∷ b ∷ c ∷ d ∷ e ∷ []) ys h is = absurd cc
header_more (a ∷ b ∷ c ∷ d ∷ e ∷ f ∷ []) ys h is = absurd cc
header_more (a ∷ b ∷ c ∷ d ∷ e ∷ f ∷ g ∷ []) ys h is = absurd cc
header_more (a ∷ b ∷ c ∷ d ∷ e ∷ f ∷ g ∷ k ∷ []) ys h is = absurd cc
header_more (a ∷ b ∷ c ∷ d ∷ e ∷ f ∷ g ∷ k ∷ i ∷ rest) ys h is = is

-- octets that come behind a header leave it
pub header_stays : (old new : List ℕ) (h : FrameHeader) → HasGrown old new
    → header_at old ≡ Some h → header_at new ≡ Some h
header_stays old new h grown is = ap header_at grown.is ∙ header_more old grown.come h is

pub text_stays : (old new t : List ℕ) → HasGrown old new → 9 ≤ length old → old ≡ t ++ drop 9 old
    → new ≡ t ++ drop 9 new
text_stays old new t grown le is =
    let more : drop 9 new ≡ drop 9 old ++ grown.come =
    ap (drop 9) grown.is ∙ drop-append-le 9 old grown.come le in
    grown.is ∙ ap (λ (l : List ℕ). l ++ grown.come) is ∙ append_assoc t (drop 9 old) grown.come
    ∙ ap (λ (l : List ℕ). t ++ l) (sym more)

pub told_whole : (bytes : List ℕ) (h : FrameHeader) → header_at bytes ≡ Some h
    → h.length ≤ 2 ^ 14 → IsTrue (is_told bytes) → 9 + h.length ≤ length bytes
told_whole bytes h is le told =
    let t = rw is at told in
    grind (arith, nat_tests, t, le)

pub short_payload : (bytes : List ℕ) (h : FrameHeader) → header_at bytes ≡ Some h
    → h.length ≤ 2 ^ 14 → length bytes < 9 + h.length → IsShort bytes
short_payload bytes h is le lt = record {
  missing = rw is lt;
  allowed = rw is (grind (arith, nat_tests, le));
}

pub frame_split : (xs t : List ℕ) (n : ℕ) → xs ≡ t ++ drop 9 xs
    → xs ≡ (t ++ take n (drop 9 xs)) ++ drop (9 + n) xs
frame_split xs t n is =
    is ∙ ap (λ (l : List ℕ). t ++ l) (sym (take-append-drop n (drop 9 xs)))
    ∙ sym (append_assoc t (take n (drop 9 xs)) (drop n (drop 9 xs)))
    ∙ ap (λ (l : List ℕ). (t ++ take n (drop 9 xs)) ++ l) (drop-drop n 9 xs)

-- a header that came with what was told needs no more
pub told_more : (old mid : List ℕ) (h : FrameHeader) → mid ≡ old → header_at mid ≡ Some h
    → h.length ≤ 2 ^ 14 → IsTrue (is_told old) → 9 + h.length ≤ length mid
told_more old mid h same is le told =
    omega (arith, ap length same, told_whole old h (sym (ap header_at same) ∙ is) le told)

pub none_told : (bytes : List ℕ) → 9 ≤ length bytes → None ≡ header_at bytes → ⊥
none_told bytes le none =
    let no : None ≡ Some (said_by bytes) = none ∙ some_header bytes le in
    absurd cc
