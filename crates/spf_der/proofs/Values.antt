-- A value is read in one way: what is read is the spelling of a value, and the spelling of a value
-- is read.
use Rattle.std.proofs.Common.{◌≡◌, ℕ, suc, ◌+◌, ◌*◌, ◌/◌, ◌%◌, ◌^◌, ◌<◌, ◌≤◌, inl, inr, ⊎_elim}
use Rattle.std.proofs.Common.{true, false, cond, List, [], ◌∷◌, ◌++◌, length, take, drop, Option}
use Rattle.std.proofs.Common.{Some, None, nat_lt, nat_eq, refl, sym, ap, subst, ◌∙◌, append_assoc}
use Rattle.std.proofs.Common.{arith, zero, unwrap_or, length-append, length-take}
use Rattle.std.specs.Prelude.{bit_and, ◌↔◌}
use Rattle.std.specs.List.{AllByRecursion}
use Rattle.std.proofs.lemmas.Bool.{lt-ltb, le-ltb, cases_lt, eqb-true}
use Rattle.std.proofs.lemmas.Bool.Decides.{nat_tests}
use Rattle.std.proofs.lemmas.List.{append-nil, nil_from_length, take_at, drop_at, take-append-drop}
use Rattle.std.proofs.lemmas.List.Elements.{recursion_from_All}
use Rattle.spf_io.specs.Option.{◌>>=◌}
use Rattle.spf_der.specs.Value.{IsTag, Value, IsBytes, value_text, length_octets, length_at}
use Rattle.spf_der.specs.Value.{long_length_at, one_octet, two_octets, three_octets, four_octets}
use Rattle.spf_der.specs.Value.{contents_at, tagged_at, value_at, optional_at, whole_at}
use Rattle.spf_der.proofs.Steps.{chosen, bind_some}

-- each number is an octet, by cases
abbrev pub Octets : List ℕ → Type 0
Octets bytes = AllByRecursion (λ (b : ℕ). b < 256) bytes

pub octets_from : (bytes : List ℕ) → IsBytes bytes → Octets bytes
octets_from bytes all = recursion_from_All (λ (b : ℕ). b < 256) bytes all

pub octets_take : (n : ℕ) (bytes : List ℕ) → Octets bytes → Octets (take n bytes)
octets_take zero bytes o = tt
octets_take (suc n) [] o = tt
octets_take (suc n) (b ∷ bytes) o = (o.0, octets_take n bytes o.1)

pub octets_drop : (n : ℕ) (bytes : List ℕ) → Octets bytes → Octets (drop n bytes)
octets_drop zero bytes o = o
octets_drop (suc n) [] o = tt
octets_drop (suc n) (b ∷ bytes) o = octets_drop n bytes o.1

pub some_is : {A : Type 0} (x y : A) → Some x ≡ Some y → x ≡ y
some_is {A} x y e = ap (λ (o : Option A). unwrap_or o x) e

-- ---- lengths

form_1 : (n : ℕ) → n < 128 → length_octets n ≡ n ∷ []
unfolding length_octets
form_1 n high = rw (lt-ltb n 128 high) refl

form_2 : (n : ℕ) → 128 ≤ n → n < 256 → length_octets n ≡ 129 ∷ n ∷ []
unfolding length_octets
form_2 n low high = rw (le-ltb n 128 low, lt-ltb n 256 high) refl

form_3 : (n : ℕ) → 256 ≤ n → n < 65536 → length_octets n ≡ 130 ∷ n / 256 ∷ n % 256 ∷ []
unfolding length_octets
form_3 n low high = rw (le-ltb n 128 (omega arith), le-ltb n 256 low, lt-ltb n 65536 high) refl

form_4 : (n : ℕ) → 65536 ≤ n → n < 16777216
    → length_octets n ≡ 131 ∷ n / 65536 ∷ n / 256 % 256 ∷ n % 256 ∷ []
unfolding length_octets
form_4 n low high =
    rw (
      le-ltb n 128 (omega arith),
      le-ltb n 256 (omega arith),
      le-ltb n 65536 low,
      lt-ltb n 16777216 high,
    ) refl

pub form_5 : (n : ℕ) → 16777216 ≤ n
    → length_octets n ≡ 132 ∷ n / 16777216 ∷ n / 65536 % 256 ∷ n / 256 % 256 ∷ n % 256 ∷ []
unfolding length_octets
form_5 n low =
    rw (
      le-ltb n 128 (omega arith),
      le-ltb n 256 (omega arith),
      le-ltb n 65536 (omega arith),
      le-ltb n 16777216 low,
    ) refl

-- a length was taken from the start
abbrev LengthTaken : List ℕ → ℕ × List ℕ → Type 0
LengthTaken bytes n = (bytes ≡ length_octets n.0 ++ n.1) × (n.0 < 2 ^ 32) × Octets n.1

one_taken : (bytes : List ℕ) (n : ℕ × List ℕ) → Octets bytes → one_octet bytes ≡ Some n
    → LengthTaken (129 ∷ bytes) n
one_taken [] n o is = cc
one_taken (a ∷ rest) n o is =
    ⊎_elim (λ p. cc (p.1)) (λ p.
    let low : 128 ≤ a = grind (arith, nat_tests) in
    subst (LengthTaken (129 ∷ a ∷ rest)) (some_is (a, rest) n p.1) (
      rw (form_2 a low o.0) refl,
      omega (arith, o.0),
      o.1,
    ))
    (chosen (nat_lt a 128) None (Some (a, rest)) (Some n) is)

two_taken : (bytes : List ℕ) (n : ℕ × List ℕ) → Octets bytes → two_octets bytes ≡ Some n
    → LengthTaken (130 ∷ bytes) n
two_taken [] n o is = cc
two_taken (a ∷ []) n o is = cc
two_taken (a ∷ b ∷ rest) n o is =
    ⊎_elim (λ p. cc (p.1)) (λ p.
    let some : 1 ≤ a = grind (arith, nat_tests) in
    let m : ℕ = a * 256 + b in
    let high : a < 256 = o.0 in
    let low : b < 256 = o.1.0 in
    let first : (a * 256 + b) / 256 ≡ a = omega arith in
    let second : (a * 256 + b) % 256 ≡ b = omega arith in
    subst (LengthTaken (130 ∷ a ∷ b ∷ rest)) (some_is (a * 256 + b, rest) n p.1)
    (rw (form_3 (a * 256 + b) (omega arith) (omega arith), first, second) refl, omega arith, o.1.1))
    (chosen (nat_eq a 0) None (Some (a * 256 + b, rest)) (Some n) is)

three_taken : (bytes : List ℕ) (n : ℕ × List ℕ) → Octets bytes → three_octets bytes ≡ Some n
    → LengthTaken (131 ∷ bytes) n
three_taken [] n o is = cc
three_taken (a ∷ []) n o is = cc
three_taken (a ∷ b ∷ []) n o is = cc
three_taken (a ∷ b ∷ c ∷ rest) n o is =
    ⊎_elim (λ p. cc (p.1)) (λ p.
    let some : 1 ≤ a = grind (arith, nat_tests) in
    let a-high : a < 256 = o.0 in
    let b-high : b < 256 = o.1.0 in
    let c-high : c < 256 = o.1.1.0 in
    let first : ((a * 256 + b) * 256 + c) / 65536 ≡ a = omega arith in
    let second : ((a * 256 + b) * 256 + c) / 256 % 256 ≡ b = omega arith in
    let third : ((a * 256 + b) * 256 + c) % 256 ≡ c = omega arith in
    subst (LengthTaken (131 ∷ a ∷ b ∷ c ∷ rest)) (some_is ((a * 256 + b) * 256 + c, rest) n p.1) (
      rw (form_4 ((a * 256 + b) * 256 + c) (omega arith) (omega arith), first, second, third) refl,
      omega arith,
      o.1.1.1,
    ))
    (chosen (nat_eq a 0) None (Some ((a * 256 + b) * 256 + c, rest)) (Some n) is)

four_taken : (bytes : List ℕ) (n : ℕ × List ℕ) → Octets bytes → four_octets bytes ≡ Some n
    → LengthTaken (132 ∷ bytes) n
four_taken [] n o is = cc
four_taken (a ∷ []) n o is = cc
four_taken (a ∷ b ∷ []) n o is = cc
four_taken (a ∷ b ∷ c ∷ []) n o is = cc
four_taken (a ∷ b ∷ c ∷ d ∷ rest) n o is =
    ⊎_elim (λ p. cc (p.1)) (λ p.
    let some : 1 ≤ a = grind (arith, nat_tests) in
    let a-high : a < 256 = o.0 in
    let b-high : b < 256 = o.1.0 in
    let c-high : c < 256 = o.1.1.0 in
    let d-high : d < 256 = o.1.1.1.0 in
    let first : (((a * 256 + b) * 256 + c) * 256 + d) / 16777216 ≡ a = omega arith in
    let second : (((a * 256 + b) * 256 + c) * 256 + d) / 65536 % 256 ≡ b = omega arith in
    let third : (((a * 256 + b) * 256 + c) * 256 + d) / 256 % 256 ≡ c = omega arith in
    let fourth : (((a * 256 + b) * 256 + c) * 256 + d) % 256 ≡ d = omega arith in
    subst (LengthTaken (132 ∷ a ∷ b ∷ c ∷ d ∷ rest))
    (some_is (((a * 256 + b) * 256 + c) * 256 + d, rest) n p.1) (
      rw (form_5 (((a * 256 + b) * 256 + c) * 256 + d) (omega arith), first, second, third, fourth)
          refl,
      omega arith,
      o.1.1.1.1,
    ))
    (chosen (nat_eq a 0) None (Some (((a * 256 + b) * 256 + c) * 256 + d, rest)) (Some n) is)

-- a length of that first octet
abbrev Formed : ℕ → List ℕ → ℕ × List ℕ → ℕ → Type 0
Formed first bytes n form = first ≡ form → LengthTaken (form ∷ bytes) n
    → LengthTaken (first ∷ bytes) n

formed : (first : ℕ) (bytes : List ℕ) (n : ℕ × List ℕ) (form : ℕ) → nat_eq first form ≡ true
    → LengthTaken (form ∷ bytes) n → LengthTaken (first ∷ bytes) n
formed first bytes n form is taken =
    let same : form ≡ first = grind (arith, nat_tests) in
    subst (λ (f : ℕ). LengthTaken (f ∷ bytes) n) same taken

long_taken : (first : ℕ) (bytes : List ℕ) (n : ℕ × List ℕ) → Octets bytes
    → long_length_at first bytes ≡ Some n → LengthTaken (first ∷ bytes) n
unfolding long_length_at
long_taken first bytes n o is =
    ⊎_elim (λ p. formed first bytes n 129 p.0 (one_taken bytes n o p.1)) (λ p.
    ⊎_elim (λ q. formed first bytes n 130 q.0 (two_taken bytes n o q.1)) (λ q.
    ⊎_elim (λ r. formed first bytes n 131 r.0 (three_taken bytes n o r.1)) (λ r.
    ⊎_elim (λ s. formed first bytes n 132 s.0 (four_taken bytes n o s.1)) (λ s. cc (s.1))
    (chosen (nat_eq first 132) (four_octets bytes) None (Some n) r.1))
    (chosen (nat_eq first 131) (three_octets bytes) _ (Some n) q.1))
    (chosen (nat_eq first 130) (two_octets bytes) _ (Some n) p.1))
    (chosen (nat_eq first 129) (one_octet bytes) _ (Some n) is)

length_taken : (bytes : List ℕ) (n : ℕ × List ℕ) → Octets bytes → length_at bytes ≡ Some n
    → LengthTaken bytes n
unfolding length_at
length_taken [] n o is = cc
length_taken (first ∷ bytes) n o is =
    ⊎_elim (λ p.
    let low : first < 128 = grind (arith, nat_tests) in
    subst (LengthTaken (first ∷ bytes)) (some_is (first, bytes) n p.1) (
      rw (form_1 first low) refl,
      omega arith,
      o.1,
    ))
    (λ p. long_taken first bytes n o.1 p.1)
    (chosen (nat_lt first 128) (Some (first, bytes)) (long_length_at first bytes) (Some n) is)

again_1 : (n : ℕ) (rest : List ℕ) → n < 128 → length_at (length_octets n ++ rest) ≡ Some (n, rest)
unfolding length_at
again_1 n rest high = rw (form_1 n high, lt-ltb n 128 high) refl

again_2 : (n : ℕ) (rest : List ℕ) → 128 ≤ n → n < 256
    → length_at (length_octets n ++ rest) ≡ Some (n, rest)
unfolding length_at long_length_at
again_2 n rest low high = rw (form_2 n low high, le-ltb n 128 low) refl

pub not_zero : (n : ℕ) → 1 ≤ n → nat_eq n 0 ≡ false
not_zero n some = grind (arith, nat_tests)

again_3 : (n : ℕ) (rest : List ℕ) → 256 ≤ n → n < 65536
    → length_at (length_octets n ++ rest) ≡ Some (n, rest)
unfolding length_at long_length_at
again_3 n rest low high =
    let sum : n / 256 * 256 + n % 256 ≡ n = omega arith in
    rw (form_3 n low high, not_zero (n / 256) (omega arith), sum) refl

again_4 : (n : ℕ) (rest : List ℕ) → 65536 ≤ n → n < 16777216
    → length_at (length_octets n ++ rest) ≡ Some (n, rest)
unfolding length_at long_length_at
again_4 n rest low high =
    let sum : (n / 65536 * 256 + n / 256 % 256) * 256 + n % 256 ≡ n = omega arith in
    rw (form_4 n low high, not_zero (n / 65536) (omega arith), sum) refl

again_5 : (n : ℕ) (rest : List ℕ) → 16777216 ≤ n → n < 2 ^ 32
    → length_at (length_octets n ++ rest) ≡ Some (n, rest)
unfolding length_at long_length_at
again_5 n rest low high =
    let sum : ((n / 16777216 * 256 + n / 65536 % 256) * 256 + n / 256 % 256) * 256 + n % 256 ≡ n =
    omega arith in
    rw (form_5 n low, not_zero (n / 16777216) (omega arith), sum) refl

length_again : (n : ℕ) (rest : List ℕ) → n < 2 ^ 32
    → length_at (length_octets n ++ rest) ≡ Some (n, rest)
length_again n rest high =
    elim (cases_lt n 128) [
      | inl lt-1 ↦ again_1 n rest lt-1
      | inr le-1 ↦ elim (cases_lt n 256) [
        | inl lt-2 ↦ again_2 n rest le-1 lt-2
        | inr le-2 ↦ elim (cases_lt n 65536) [
          | inl lt-3 ↦ again_3 n rest le-2 lt-3
          | inr le-3 ↦ elim (cases_lt n 16777216) [
            | inl lt-4 ↦ again_4 n rest le-3 lt-4
            | inr le-4 ↦ again_5 n rest le-4 high
          ]
        ]
      ]
    ]

-- ---- contents

-- the contents of a value, and what follows them
abbrev split : ℕ × List ℕ → Option (List ℕ × List ℕ)
split n = cond (nat_lt (length n.1) n.0) None (Some (take n.0 n.1, drop n.0 n.1))

-- contents were taken from the start
pub record ContentsTaken (bytes contents rest : List ℕ) : Type 0 where
  pub cut : bytes ≡ length_octets (length contents) ++ (contents ++ rest)
  pub short : length contents < 2 ^ 32
  pub inner : Octets contents
  pub outer : Octets rest

split_taken : (bytes : List ℕ) (n : ℕ) (left : List ℕ) → LengthTaken bytes (n, left)
    → n ≤ length left → ContentsTaken bytes (take n left) (drop n left)
split_taken bytes n left taken long =
    let size : length (take n left) ≡ n = omega (arith, length-take n left) in
    record {
      cut = taken.0 ∙ ap (λ (m : ℕ). length_octets m ++ left) (sym size)
          ∙ ap (λ (z : List ℕ). length_octets (length (take n left)) ++ z)
          (sym (take-append-drop n left));
      short = omega (arith, taken.1);
      inner = octets_take n left taken.2;
      outer = octets_drop n left taken.2;
    }

pub contents_taken : (bytes contents rest : List ℕ) → Octets bytes
    → contents_at bytes ≡ Some (contents, rest) → ContentsTaken bytes contents rest
unfolding contents_at
contents_taken bytes contents rest o is =
    let found : (n : ℕ × List ℕ) × (length_at bytes ≡ Some n) × (split n ≡ Some (contents, rest)) =
    bind_some {B = List ℕ × List ℕ} (length_at bytes) split (contents, rest) is in
    let n = found.0 in
    let taken = length_taken bytes n o found.1 in
    ⊎_elim (λ p. cc (p.1)) (λ p.
    let long : n.0 ≤ length n.1 = grind (arith, nat_tests) in
    subst (λ (y : List ℕ × List ℕ). ContentsTaken bytes y.0 y.1)
    (some_is (take n.0 n.1, drop n.0 n.1) (contents, rest) p.1)
    (split_taken bytes n.0 n.1 taken long))
    (chosen (nat_lt (length n.1) n.0) None (Some (take n.0 n.1, drop n.0 n.1))
    (Some (contents, rest)) found.2)

pub contents_again : (contents rest : List ℕ) → length contents < 2 ^ 32
    → contents_at (length_octets (length contents) ++ (contents ++ rest)) ≡ Some (contents, rest)
unfolding contents_at
contents_again contents rest short =
    let long : nat_lt (length (contents ++ rest)) (length contents) ≡ false =
    le-ltb (length (contents ++ rest)) (length contents)
    (omega (arith, length-append contents rest)) in
    rw (
      length_again (length contents) (contents ++ rest) short,
      long,
      take_at contents rest (length contents) refl,
      drop_at contents rest (length contents) refl,
    ) refl

-- ---- values

-- a value was taken from the start
pub record Taken (tag : ℕ) (bytes contents rest : List ℕ) : Type 0 where
  pub text : List ℕ
  pub value : Value text tag contents
  pub cut : bytes ≡ text ++ rest
  pub inner : Octets contents
  pub outer : Octets rest

pub taken_from : (tag : ℕ) (bytes contents rest : List ℕ) → tag < 256 → IsTag tag
    → ContentsTaken bytes contents rest → Taken tag (tag ∷ bytes) contents rest
taken_from tag bytes contents rest octet is_tag taken =
    record {
      text = value_text tag contents;
      value = record {
        fits = record { octet = octet; tag_ok = is_tag; short = taken.short };
        spelled = refl;
      };
      cut = ap (λ (z : List ℕ). tag ∷ z)
          (taken.cut ∙ sym (append_assoc (length_octets (length contents)) contents rest));
      inner = taken.inner;
      outer = taken.outer;
    }

value_begins : (tag : ℕ) (contents rest : List ℕ)
    → value_text tag contents ++ rest
    ≡ tag ∷ (length_octets (length contents) ++ (contents ++ rest))
value_begins tag contents rest =
    ap (λ (z : List ℕ). tag ∷ z) (append_assoc (length_octets (length contents)) contents rest)

-- what follows the tag
pub begins : (b : List ℕ) (tag : ℕ) (contents rest : List ℕ) → Value b tag contents
    → b ++ rest ≡ tag ∷ (length_octets (length contents) ++ (contents ++ rest))
begins b tag contents rest value =
    ap (λ (z : List ℕ). z ++ rest) value.spelled ∙ value_begins tag contents rest

pub same_number : (n : ℕ) → nat_eq n n ≡ true
same_number n = grind (arith, nat_tests)

pub tagged_again : (b : List ℕ) (tag : ℕ) (contents rest : List ℕ) → Value b tag contents
    → tagged_at tag (b ++ rest) ≡ Some (contents, rest)
unfolding tagged_at
tagged_again b tag contents rest value =
    ap (tagged_at tag) (begins b tag contents rest value)
    ∙ rw (same_number tag, contents_again contents rest value.fits.short) refl

pub tagged_taken : (tag : ℕ) (bytes contents rest : List ℕ) → tag < 256 → IsTag tag → Octets bytes
    → tagged_at tag bytes ≡ Some (contents, rest) → Taken tag bytes contents rest
unfolding tagged_at
tagged_taken tag [] contents rest octet is_tag o is = cc
tagged_taken tag (first ∷ bytes) contents rest octet is_tag o is =
    ⊎_elim (λ p.
    let same : tag ≡ first = grind (arith, nat_tests) in
    subst (λ (f : ℕ). Taken tag (f ∷ bytes) contents rest) same
    (taken_from tag bytes contents rest octet is_tag (contents_taken bytes contents rest o.1 p.1)))
    (λ p. cc (p.1))
    (chosen (nat_eq first tag) (contents_at bytes) None (Some (contents, rest)) is)

pub value_again : (b : List ℕ) (tag : ℕ) (contents rest : List ℕ) → Value b tag contents
    → value_at (b ++ rest) ≡ Some (tag, contents, rest)
unfolding value_at
value_again b tag contents rest value =
    let low : nat_eq (bit_and tag 31) 31 ≡ false = grind (arith, nat_tests, value.fits.tag_ok) in
    ap value_at (begins b tag contents rest value)
    ∙ rw (low, contents_again contents rest value.fits.short) refl

pub value_taken : (bytes : List ℕ) (tag : ℕ) (contents rest : List ℕ) → Octets bytes
    → value_at bytes ≡ Some (tag, contents, rest) → Taken tag bytes contents rest
unfolding value_at
value_taken [] tag contents rest o is = cc
value_taken (t ∷ bytes) tag contents rest o is =
    ⊎_elim (λ p. cc (p.1)) (λ p.
    let found : (v : List ℕ × List ℕ) × (contents_at bytes ≡ Some v)
    × (Some (t, v.0, v.1) ≡ Some (tag, contents, rest)) =
    bind_some {B = ℕ × List ℕ × List ℕ} (contents_at bytes) (λ v. Some (t, v.0, v.1)) (
      tag,
      contents,
      rest,
    ) p.1 in
    let v = found.0 in
    let is_tag : IsTag t = λ e. grind (arith, nat_tests, e, p.0) in
    subst (λ (y : ℕ × List ℕ × List ℕ). Taken y.0 (t ∷ bytes) y.1 y.2)
    (some_is (t, v.0, v.1) (tag, contents, rest) found.2)
    (taken_from t bytes v.0 v.1 o.0 is_tag (contents_taken bytes v.0 v.1 o.1 found.1)))
    (chosen (nat_eq (bit_and t 31) 31) None (contents_at bytes >>= λ v. Some (t, v.0, v.1))
    (Some (tag, contents, rest)) is)

-- nothing follows
pub no_rest : (rest : List ℕ) → nat_eq (length rest) 0 ≡ true → rest ≡ []
no_rest rest is = nil_from_length rest (eqb-true (length rest) 0 is)

pub whole_again : (b : List ℕ) (tag : ℕ) (contents : List ℕ) → Value b tag contents
    → whole_at tag b ≡ Some contents
unfolding whole_at
whole_again b tag contents value =
    let read : tagged_at tag b ≡ Some (contents, []) =
    ap (tagged_at tag) (sym (append-nil b)) ∙ tagged_again b tag contents [] value in
    rw read refl

-- the bytes are the value
pub record Whole (tag : ℕ) (bytes contents : List ℕ) : Type 0 where
  pub value : Value bytes tag contents
  pub inner : Octets contents

whole_from : (tag : ℕ) (bytes contents rest : List ℕ) → rest ≡ [] → Taken tag bytes contents rest
    → Whole tag bytes contents
whole_from tag bytes contents rest none taken =
    let same : taken.text ≡ bytes =
    sym (taken.cut ∙ ap (λ (z : List ℕ). taken.text ++ z) none ∙ append-nil taken.text) in
    record {
      value = subst (λ (b : List ℕ). Value b tag contents) same taken.value;
      inner = taken.inner;
    }

pub whole_taken : (tag : ℕ) (bytes contents : List ℕ) → tag < 256 → IsTag tag → Octets bytes
    → whole_at tag bytes ≡ Some contents → Whole tag bytes contents
unfolding whole_at
whole_taken tag bytes contents octet is_tag o is =
    let found : (v : List ℕ × List ℕ) × (tagged_at tag bytes ≡ Some v)
    × (cond (nat_eq (length v.1) 0) (Some v.0) None ≡ Some contents) =
    bind_some {B = List ℕ} (tagged_at tag bytes) (λ v. cond (nat_eq (length v.1) 0) (Some v.0) None)
    contents is in
    let v = found.0 in
    let taken = tagged_taken tag bytes v.0 v.1 octet is_tag o found.1 in
    ⊎_elim (λ p.
    subst (Whole tag bytes) (some_is v.0 contents p.1)
    (whole_from tag bytes v.0 v.1 (no_rest v.1 p.0) taken)) (λ p. cc (p.1))
    (chosen (nat_eq (length v.1) 0) (Some v.0) None (Some contents) found.2)

-- a value that may be left out was taken from the start, or was left out
abbrev pub MaybeTaken : ℕ → List ℕ → Option (List ℕ) → List ℕ → Type 0
MaybeTaken tag bytes None rest = (bytes ≡ rest) × Octets rest
MaybeTaken tag bytes (Some contents) rest = Taken tag bytes contents rest

pub optional_again : (b : List ℕ) (tag : ℕ) (contents rest : List ℕ) → Value b tag contents
    → optional_at tag (b ++ rest) ≡ Some (Some contents, rest)
unfolding optional_at
optional_again b tag contents rest value =
    ap (optional_at tag) (begins b tag contents rest value)
    ∙ rw (same_number tag, contents_again contents rest value.fits.short) refl

pub optional_taken : (tag : ℕ) (bytes : List ℕ) (found : Option (List ℕ)) (rest : List ℕ)
    → tag < 256 → IsTag tag → Octets bytes → optional_at tag bytes ≡ Some (found, rest)
    → MaybeTaken tag bytes found rest
unfolding optional_at
optional_taken tag [] found rest octet is_tag o is =
    subst (λ (y : Option (List ℕ) × List ℕ). MaybeTaken tag [] y.0 y.1)
    (some_is (None, []) (found, rest) is) (refl, tt)
optional_taken tag (first ∷ bytes) found rest octet is_tag o is =
    ⊎_elim (λ p.
    let same : tag ≡ first = grind (arith, nat_tests) in
    let read : (v : List ℕ × List ℕ) × (contents_at bytes ≡ Some v)
    × (Some (Some v.0, v.1) ≡ Some (found, rest)) =
    bind_some {B = Option (List ℕ) × List ℕ} (contents_at bytes) (λ v. Some (Some v.0, v.1)) (
      found,
      rest,
    ) p.1 in
    let v = read.0 in
    let taken : Taken tag (first ∷ bytes) v.0 v.1 =
    subst (λ (f : ℕ). Taken tag (f ∷ bytes) v.0 v.1) same
    (taken_from tag bytes v.0 v.1 octet is_tag (contents_taken bytes v.0 v.1 o.1 read.1)) in
    subst (λ (y : Option (List ℕ) × List ℕ). MaybeTaken tag (first ∷ bytes) y.0 y.1)
    (some_is (Some v.0, v.1) (found, rest) read.2) taken)
    (λ p. subst (λ (y : Option (List ℕ) × List ℕ). MaybeTaken tag (first ∷ bytes) y.0 y.1)
    (some_is (None, first ∷ bytes) (found, rest) p.1) (refl, o))
    (chosen (nat_eq first tag) (contents_at bytes >>= λ v. Some (Some v.0, v.1))
    (Some (None, first ∷ bytes)) (Some (found, rest)) is)

-- ---- one reading

-- the value at the start is what is read
pub value_exact : (bytes : List ℕ) (tag : ℕ) (contents rest : List ℕ) → IsBytes bytes
    → (value_at bytes ≡ Some (tag, contents, rest))
    ↔ ((text : List ℕ) × Value text tag contents × (bytes ≡ text ++ rest))
value_exact bytes tag contents rest all = (
  λ is. let taken = value_taken bytes tag contents rest (octets_from bytes all) is in
      (taken.text, taken.value, taken.cut),
  λ (text, value, cut). ap value_at cut ∙ value_again text tag contents rest value,
)

-- no value is a proper prefix of another
pub one_value : (a b x y : List ℕ) (t u : ℕ) (c d : List ℕ) → Value a t c → Value b u d
    → a ++ x ≡ b ++ y → (a ≡ b) × (t ≡ u) × (c ≡ d) × (x ≡ y)
one_value a b x y t u c d first second same =
    let read = some_is (t, c, x) (u, d, y)
    (sym (value_again a t c x first) ∙ ap value_at same ∙ value_again b u d y second) in
    let tag : t ≡ u = ap (λ (z : ℕ × List ℕ × List ℕ). z.0) read in
    let contents : c ≡ d = ap (λ (z : ℕ × List ℕ × List ℕ). z.1) read in
    let text : a ≡ b =
    first.spelled ∙ ap (λ (z : ℕ × List ℕ × List ℕ). value_text z.0 z.1) read
    ∙ sym second.spelled in
    (text, tag, contents, ap (λ (z : ℕ × List ℕ × List ℕ). z.2) read)
