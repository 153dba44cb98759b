-- What is laid out is read, and what is read was laid out: numbers, fields and lists.
use Rattle.std.proofs.Common.{◌≡◌, ℕ, zero, suc, ◌^◌, ◌<◌, ◌≤◌, ◌⊎◌, Bool, true, false, cond, List}
use Rattle.std.proofs.Common.{[], ◌∷◌, ◌++◌, length, take, drop, get_or, Option, Some, None, nat_lt}
use Rattle.std.proofs.Common.{refl, sym, ap, ◌∙◌, subst, arith, append_assoc, length-append, inl}
use Rattle.std.proofs.Common.{inr, unwrap_or, ⊎_elim}
use Rattle.std.proofs.lemmas.Bool.{le-ltb, ltb-false}
use Rattle.std.proofs.lemmas.Nat.{be_bytes_4, from_be_bytes-to_be_bytes_4}
use Rattle.std.proofs.lemmas.List.{take-append-drop, length-take-le}
use Rattle.std.proofs.lemmas.Str.{is_utf8-from_IsUtf8, IsUtf8-from_is_utf8}
use Rattle.std.proofs.Math.Seq.{take-append_seam, drop-append_seam}
use Rattle.std.specs.Int.{w32, to_be_bytes, from_be_bytes}
use Rattle.std.specs.Str.{is_utf8}
use Rattle.spf_api.specs.Layout.{field_text, HasLength32, IsText}
use Rattle.spf_api.specs.Reading.{◌>>=◌, number_at, byte_field_at, text_field_at}

abbrev pub IsBytes : List ℕ → Type 0
IsBytes bytes = (i : ℕ) → get_or bytes i 0 < 256

pub rest_bytes : (front rest : List ℕ) → IsBytes (front ++ rest) → IsBytes rest
rest_bytes [] rest octets = octets
rest_bytes (x ∷ front) rest octets = rest_bytes front rest (λ i. octets (suc i))

-- a reader of values that are spelled by `text` and may be laid out by P
pub record Reads {A : Type 0} (one : List ℕ → Option (A × List ℕ)) (text : A → List ℕ)
    (P : A → Type 0) : Type 0 where
  pub again : (x : A) (rest : List ℕ) → P x → one (text x ++ rest) ≡ Some (x, rest)
  pub takes : (bytes : List ℕ) (x : A) (rest : List ℕ) → IsBytes bytes → one bytes ≡ Some (x, rest)
      → P x × (bytes ≡ text x ++ rest)

-- which way a test went
pub chosen : {A : Type 0} (b : Bool) (x y z : A) → cond b x y ≡ z
    → ((b ≡ true) × (x ≡ z)) ⊎ ((b ≡ false) × (y ≡ z))
chosen true x y z e = inl (refl, e)
chosen false x y z e = inr (refl, e)

-- the two steps of a bind
pub bind_some : {A B : Type 0} (r : Option A) (f : A → Option B) (y : B) → (r >>= f) ≡ Some y
    → (x : A) × (r ≡ Some x) × (f x ≡ Some y)
bind_some None f y e = cc
bind_some (Some x) f y e = (x, refl, e)

-- what was found is the same, part by part
pub pair_parts : {A B : Type 0} (x y : A × B) → Some x ≡ Some y → (x.0 ≡ y.0) × (x.1 ≡ y.1)
pair_parts {A} {B} x y e = let p = ap (λ (o : Option (A × B)). unwrap_or o x) e in
    (ap (λ (z : A × B). z.0) p, ap (λ (z : A × B). z.1) p)

pub number_again : (n : ℕ) (rest : List ℕ) → n < 2 ^ 32
    → number_at (to_be_bytes w32 n ++ rest) ≡ Some (n, rest)
unfolding number_at
number_again n rest lt = ap (λ (m : ℕ). Some (m, rest)) (from_be_bytes-to_be_bytes_4 n lt)

four_octets : (a b c d n : ℕ) → a < 256 → b < 256 → c < 256 → d < 256
    → n ≡ from_be_bytes w32 (a ∷ b ∷ c ∷ d ∷ []) → n < 2 ^ 32
four_octets a b c d n a_fits b_fits c_fits d_fits is = omega arith

pub number_takes : (bytes : List ℕ) (n : ℕ) (rest : List ℕ) → IsBytes bytes
    → number_at bytes ≡ Some (n, rest) → (n < 2 ^ 32) × (bytes ≡ to_be_bytes w32 n ++ rest)
unfolding number_at
number_takes [] n rest octets e = cc
number_takes (a ∷ []) n rest octets e = cc
number_takes (a ∷ b ∷ []) n rest octets e = cc
number_takes (a ∷ b ∷ c ∷ []) n rest octets e = cc
number_takes (a ∷ b ∷ c ∷ d ∷ bytes) n rest octets e =
    let same = pair_parts (from_be_bytes w32 (a ∷ b ∷ c ∷ d ∷ []), bytes) (n, rest) e in
    let front : IsBytes (a ∷ b ∷ c ∷ d ∷ []) = four octets in
    let spelled : to_be_bytes w32 n ≡ a ∷ b ∷ c ∷ d ∷ [] =
    be_bytes_4 (a ∷ b ∷ c ∷ d ∷ []) n refl front (sym same.0) in (
      four_octets a b c d n (octets 0) (octets 1) (octets 2) (octets 3) (sym same.0),
      (λ i. (a ∷ b ∷ c ∷ d ∷ []) ++ same.1 i) ∙ (λ i. sym spelled i ++ rest),
    )
  where
    four : IsBytes (a ∷ b ∷ c ∷ d ∷ bytes) → IsBytes (a ∷ b ∷ c ∷ d ∷ [])
    four h zero = h 0
    four h (suc zero) = h 1
    four h (suc (suc zero)) = h 2
    four h (suc (suc (suc zero))) = h 3
    four h (suc (suc (suc (suc i)))) = omega arith

byte_field_again : (octets rest : List ℕ) → HasLength32 octets
    → byte_field_at (field_text octets ++ rest) ≡ Some (octets, rest)
unfolding byte_field_at field_text
byte_field_again octets rest short =
    let long : nat_lt (length (octets ++ rest)) (length octets) ≡ false =
    le-ltb (length (octets ++ rest)) (length octets) (omega (arith, length-append octets rest)) in
    rw (
      append_assoc (to_be_bytes w32 (length octets)) octets rest,
      number_again (length octets) (octets ++ rest) short,
      long,
      take-append_seam,
      drop-append_seam,
    ) refl

byte_field_takes : (bytes octets rest : List ℕ) → IsBytes bytes
    → byte_field_at bytes ≡ Some (octets, rest)
    → HasLength32 octets × (bytes ≡ field_text octets ++ rest)
unfolding byte_field_at field_text
byte_field_takes bytes octets rest are e =
    let found =
    bind_some (number_at bytes)
    (λ (n : ℕ × List ℕ). cond (nat_lt (length n.1) n.0) None (Some (take n.0 n.1, drop n.0 n.1)))
    (octets, rest) e in
    let n : ℕ = found.0.0 in
    let after : List ℕ = found.0.1 in
    let number = number_takes bytes n after are found.1 in
    ⊎_elim (λ p. cc (p.1)) (λ p.
    let same = pair_parts (take n after, drop n after) (octets, rest) p.1 in
    let le : n ≤ length after = ltb-false (length after) n p.0 in
    let size : length octets ≡ n = ap (length {A = ℕ}) (sym same.0) ∙ length-take-le n after le in
    let cut : after ≡ octets ++ rest =
    sym (take-append-drop n after) ∙ (λ i. same.0 i ++ same.1 i) in
    let whole : bytes ≡ to_be_bytes w32 (length octets) ++ (octets ++ rest) =
    number.1 ∙ (λ i. to_be_bytes w32 (sym size i) ++ cut i) in
    (rw size (number.0), whole ∙ sym (append_assoc (to_be_bytes w32 (length octets)) octets rest)))
    (chosen (nat_lt (length after) n) None (Some (take n after, drop n after)) (Some (octets, rest))
    found.2)

pub byte_fields : Reads byte_field_at field_text HasLength32
byte_fields = record { again = byte_field_again; takes = byte_field_takes }

text_field_again : (text rest : List ℕ) → IsText text
    → text_field_at (field_text text ++ rest) ≡ Some (text, rest)
unfolding text_field_at
text_field_again text rest is =
    rw (byte_field_again text rest is.short, is_utf8-from_IsUtf8 text is.utf8) refl

text_field_takes : (bytes text rest : List ℕ) → IsBytes bytes
    → text_field_at bytes ≡ Some (text, rest) → IsText text × (bytes ≡ field_text text ++ rest)
unfolding text_field_at
text_field_takes bytes text rest are e =
    let found =
    bind_some (byte_field_at bytes)
    (λ (t : List ℕ × List ℕ). cond (is_utf8 t.0) (Some (t.0, t.1)) None) (text, rest) e in
    ⊎_elim (λ p.
    let same = pair_parts (found.0.0, found.0.1) (text, rest) p.1 in
    let field = byte_field_takes bytes text rest are (found.1 ∙ p.1) in (
      record {
        short = field.0;
        utf8 = IsUtf8-from_is_utf8 text (subst (λ (t : List ℕ). is_utf8 t ≡ true) same.0 p.0);
      },
      field.1,
    ))
    (λ p. cc (p.1))
    (chosen (is_utf8 found.0.0) (Some (found.0.0, found.0.1)) None (Some (text, rest)) found.2)

pub text_fields : Reads text_field_at field_text IsText
text_fields = record { again = text_field_again; takes = text_field_takes }
