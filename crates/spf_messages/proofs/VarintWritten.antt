-- A number that is written as a varint, octet by octet, and read back.
use Rattle.std.proofs.Common.{◌≡◌, ◌∙◌, ℕ, zero, suc, ◌+◌, ◌-◌, ◌*◌, ◌/◌, ◌%◌, ◌^◌, ◌<◌, ◌≤◌, Bool}
use Rattle.std.proofs.Common.{true, false, List, [], ◌∷◌, ◌++◌, Option, Some, refl, sym}
use Rattle.std.proofs.Common.{ap, append_assoc, arith}
use Rattle.std.proofs.lemmas.Bool.Decides.{nat_tests}
use Rattle.std.specs.Prelude.{nat_lt}
use Rattle.spf_io.specs.Option.{◌>>=◌}
use Rattle.spf_messages.specs.Wire.{below64, varint_within, varint_at, varint_octets, varint_text}

-- what `more` octets and one can say
abbrev pub bound : ℕ → ℕ
bound zero = 128
bound (suc more) = 128 * bound more

-- the octets so far, and those to come
pub record Going (start now : List ℕ) (number left : ℕ) : Type 0 where
  pub more : ℕ
  pub octets : now ++ varint_octets more left ≡ start ++ varint_text number
  pub short : left < bound more

pub going_first : (start : List ℕ) (number : ℕ) → number < 2 ^ 64
    → Going start start number number
going_first start number lt = record { more = 9; octets = refl; short = omega (arith, lt) }

is_last : (n : ℕ) → n < 128 → nat_lt n 128 ≡ true
is_last n lt = grind (arith, nat_tests, lt)

is_not_last : (n : ℕ) → 128 ≤ n → nat_lt n 128 ≡ false
is_not_last n le = grind (arith, nat_tests, le)

one_octet : (more n : ℕ) → n < 128 → varint_octets more n ≡ n ∷ []
one_octet zero n lt = refl
one_octet (suc more) n lt = rw (is_last n lt) refl

more_octets : (more n : ℕ) → 128 ≤ n
    → varint_octets (suc more) n ≡ (128 + n % 128) ∷ varint_octets more (n / 128)
more_octets more n le = rw (is_not_last n le) refl

shorter : (n b : ℕ) → n < 128 * b → n / 128 < b
shorter n b lt = omega (arith, lt)

going_with : (start now next : List ℕ) (number left more : ℕ)
    → now ++ varint_octets more left ≡ start ++ varint_text number → left < bound more
    → 128 ≤ left → next ≡ now ++ (128 + left % 128) ∷ []
    → Going start next number (left / 128)
going_with start now next number left zero octets short le is = absurd (omega (arith, short, le))
going_with start now next number left (suc more) octets short le is = record {
  more = more;
  octets = ap (λ (l : List ℕ). l ++ varint_octets more (left / 128)) is
      ∙ append_assoc now ((128 + left % 128) ∷ []) (varint_octets more (left / 128))
      ∙ ap (λ (l : List ℕ). now ++ l) (sym (more_octets more left le)) ∙ octets;
  short = shorter left (bound more) short;
}

pub going_more : (start now next : List ℕ) (number left : ℕ) → Going start now number left
    → 128 ≤ left → next ≡ now ++ (128 + left % 128) ∷ []
    → Going start next number (left / 128)
going_more start now next number left g le is =
    going_with start now next number left g.more g.octets g.short le is

pub going_last : (start now next : List ℕ) (number left : ℕ) → Going start now number left
    → left < 128 → next ≡ now ++ left ∷ [] → next ≡ start ++ varint_text number
going_last start now next number left g lt is =
    is ∙ ap (λ (l : List ℕ). now ++ l) (sym (one_octet g.more left lt)) ∙ g.octets

-- ---- read back

fits : (value n : ℕ) (rest : List ℕ) → value ≡ n → n < 2 ^ 64
    → below64 value rest ≡ Some (n, rest)
fits value n rest is lt =
    ap (λ (m : ℕ). below64 m rest) is
    ∙ (let small : nat_lt n (2 ^ 64) ≡ true = grind (arith, nat_tests, lt) in rw small refl)

abbrev read_on : ℕ → Option (ℕ × List ℕ) → Option (ℕ × List ℕ)
read_on octet found = found >>= λ high. below64 (128 * high.0 + (octet - 128)) high.1

first_octet : (max octet : ℕ) (bytes : List ℕ) → 128 ≤ octet
    → varint_within (suc max) (octet ∷ bytes) ≡ read_on octet (varint_within max bytes)
first_octet max octet bytes le = rw (is_not_last octet le) refl

last_back : (max n : ℕ) (rest : List ℕ) → n < 128
    → varint_within (suc max) ((n ∷ []) ++ rest) ≡ Some (n, rest)
last_back max n rest lt = rw (is_last n lt) refl

step_back : (b : Bool) (more n : ℕ) (rest : List ℕ) → nat_lt n 128 ≡ b → n < bound (suc more)
    → n < 2 ^ 64
    → (n / 128 < bound more → n / 128 < 2 ^ 64
    → varint_within (suc more) (varint_octets more (n / 128) ++ rest) ≡ Some (n / 128, rest))
    → varint_within (suc (suc more)) (varint_octets (suc more) n ++ rest) ≡ Some (n, rest)
step_back true more n rest test short lt others =
    let small : n < 128 = grind (arith, nat_tests, test) in
    ap (λ (l : List ℕ). varint_within (suc (suc more)) (l ++ rest)) (one_octet (suc more) n small)
    ∙ last_back (suc more) n rest small
step_back false more n rest test short lt others =
    let large : 128 ≤ n = grind (arith, nat_tests, test) in
    ap (λ (l : List ℕ). varint_within (suc (suc more)) (l ++ rest)) (more_octets more n large)
    ∙ first_octet (suc more) (128 + n % 128) (varint_octets more (n / 128) ++ rest) (omega arith)
    ∙ ap (read_on (128 + n % 128)) (others (shorter n (bound more) short) (omega (arith, lt)))
    ∙ fits (128 * (n / 128) + (128 + n % 128 - 128)) n rest (omega arith) lt

octets_back : (more n : ℕ) (rest : List ℕ) → n < bound more → n < 2 ^ 64
    → varint_within (suc more) (varint_octets more n ++ rest) ≡ Some (n, rest)
octets_back zero n rest short lt = last_back zero n rest short
octets_back (suc more) n rest short lt =
    step_back (nat_lt n 128) more n rest refl short lt (octets_back more (n / 128) rest)

pub varint_back : (n : ℕ) (rest : List ℕ) → n < 2 ^ 64
    → varint_at (varint_text n ++ rest) ≡ Some (n, rest)
varint_back n rest lt = octets_back 9 n rest (omega (arith, lt)) lt
