-- Octets that are the texts of frames.
use Rattle.std.proofs.Common.{◌≡◌, ◌∙◌, ℕ, ◌+◌, ◌/◌, ◌%◌, ◌<◌}
use Rattle.std.proofs.Common.{◌^◌, List, [], ◌∷◌, ◌++◌, length}
use Rattle.std.proofs.Common.{take, drop, Option, Some, refl, sym, ap, arith, length-append}
use Rattle.std.proofs.Common.{append_assoc, take_at, drop_at, inl, inr}
use Rattle.std.specs.Prelude.{◌⊎◌, nat_lt, false}
use Rattle.std.specs.List.{AllByRecursion}
use Rattle.std.specs.Int.{w32, to_be_bytes, from_be_bytes}
use Rattle.std.proofs.lemmas.Bool.Decides.{nat_tests}
use Rattle.std.proofs.lemmas.Nat.{from_be_bytes-to_be_bytes_4}
use Rattle.std.proofs.lemmas.List.{drop-drop}
use Rattle.spf_http2.specs.declared.header.FrameHeader.{FrameHeader}
use Rattle.spf_http2.specs.Frames.{Frame, IsHeader, IsFrame, header_text, header_at, frame_text}
use Rattle.spf_http2.specs.Frames.{frames_text, frame_at}

length_back : (n : ℕ) → n < 2 ^ 24
    → from_be_bytes w32 (0 ∷ drop 1 (to_be_bytes w32 n)) ≡ n
length_back n lt =
    let zero : n / 16777216 % 256 ≡ 0 = omega arith in
    ap (λ z. from_be_bytes w32 (z ∷ drop 1 (to_be_bytes w32 n))) (sym zero)
    ∙ from_be_bytes-to_be_bytes_4 n (omega arith)

header_back : (h : FrameHeader) (rest : List ℕ) → IsHeader h
    → header_at (header_text h ++ rest) ≡ Some h
unfolding header_text header_at
header_back h rest is =
    let size = length_back h.length is.length in
    let word = from_be_bytes-to_be_bytes_4 h.word is.word in
    λ i. Some (record { length = size i; kind = h.kind; flags = h.flags; word = word i })

header_size : (h : FrameHeader) → length (header_text h) ≡ 9
unfolding header_text
header_size h = refl

pub read_back : (f : Frame) (rest : List ℕ) → IsFrame f
    → frame_at (frame_text f ++ rest) ≡ Some (f, rest)
unfolding frame_at
read_back f rest is =
    let h = f.header in
    let bytes = frame_text f ++ rest in
    let joined : bytes ≡ header_text h ++ (f.payload ++ rest) =
    append_assoc (header_text h) f.payload rest in
    let head : header_at bytes ≡ Some h =
    ap header_at joined ∙ header_back h (f.payload ++ rest) is.header in
    let behind : drop 9 bytes ≡ f.payload ++ rest =
    ap (drop 9) joined ∙ drop_at (header_text h) (f.payload ++ rest) 9 (header_size h) in
    let size : length bytes ≡ 9 + (length f.payload + length rest) =
    ap length joined ∙ length-append (header_text h) (f.payload ++ rest)
    ∙ ap (λ n. n + length (f.payload ++ rest)) (header_size h)
    ∙ ap (λ n. 9 + n) (length-append f.payload rest) in
    let short : nat_lt (2 ^ 14) h.length ≡ false = grind (arith, nat_tests, is.short, is.says) in
    let whole : nat_lt (length bytes) (9 + h.length) ≡ false =
    grind (arith, nat_tests, size, is.says) in
    let payload : take h.length (drop 9 bytes) ≡ f.payload =
    ap (take h.length) behind ∙ take_at f.payload rest h.length (sym is.says) in
    let left : drop (9 + h.length) bytes ≡ rest =
    sym (drop-drop h.length 9 bytes) ∙ ap (drop h.length) behind
    ∙ drop_at f.payload rest h.length (sym is.says) in
    rw (head, short, whole)
    (λ i. Some (record { header = h; payload = payload i }, left i))

-- two frames that begin the same octets
same_first : (f g : Frame) (xs ys : List ℕ) → IsFrame f → IsFrame g
    → frame_text f ++ xs ≡ frame_text g ++ ys → ◌≡◌ {A = Frame × List ℕ} (f, xs) (g, ys)
same_first f g xs ys is is' e =
    let both : ◌≡◌ {A = Option (Frame × List ℕ)} (Some (f, xs)) (Some (g, ys)) =
    sym (read_back f xs is) ∙ ap frame_at e ∙ read_back g ys is' in
    cc

pub record Lacks (fs gs : List Frame) (xs ys : List ℕ) : Type 0 where
  pub more : List Frame
  pub is : gs ≡ fs ++ more
  pub text : xs ≡ frames_text more ++ ys

pub one_way : (fs gs : List Frame) (xs ys : List ℕ) → AllByRecursion IsFrame fs
    → AllByRecursion IsFrame gs → frames_text fs ++ xs ≡ frames_text gs ++ ys
    → Lacks fs gs xs ys ⊎ Lacks gs fs ys xs
one_way [] gs xs ys are are' e = inl (record { more = gs; is = refl; text = e })
one_way (f ∷ fs) [] xs ys are are' e =
    inr (record { more = f ∷ fs; is = refl; text = sym e })
one_way (f ∷ fs) (g ∷ gs) xs ys are are' e =
    let joined : frame_text f ++ (frames_text fs ++ xs) ≡ frame_text g ++ (frames_text gs ++ ys) =
    sym (append_assoc (frame_text f) (frames_text fs) xs) ∙ e
    ∙ append_assoc (frame_text g) (frames_text gs) ys in
    let first = same_first f g (frames_text fs ++ xs) (frames_text gs ++ ys) are.0 are'.0 joined in
    let same : f ≡ g = ap (λ (p : Frame × List ℕ). p.0) first in
    let rest : frames_text fs ++ xs ≡ frames_text gs ++ ys =
    ap (λ (p : Frame × List ℕ). p.1) first in
    elim (one_way fs gs xs ys are.1 are'.1 rest) [
      | inl l ↦ inl
          (record { more = l.more; is = λ i. (sym same) i ∷ l.is i; text = l.text })
      | inr l ↦ inr
          (record { more = l.more; is = λ i. same i ∷ l.is i; text = l.text })
    ]
