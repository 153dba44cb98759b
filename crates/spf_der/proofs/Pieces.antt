-- The small pieces of the grammar: what is read is such a piece, and such a piece is read.
use Rattle.std.proofs.Common.{◌≡◌, ◌≢◌, ℕ, ◌<◌, ◌≤◌, ◌⊎◌, inl, inr, ⊎_elim, Bool, true, false, cond}
use Rattle.std.proofs.Common.{List, [], ◌∷◌, ◌++◌, length, Option, Some, None, nat_le, nat_lt}
use Rattle.std.proofs.Common.{nat_eq, refl, sym, ap, subst, ◌∙◌, arith, ℤ}
use Rattle.std.specs.Prelude.{bit_and}
use Rattle.std.proofs.lemmas.Bool.{le-leb, ltb-true, eqb-true, eqb-false}
use Rattle.std.proofs.lemmas.Bool.Decides.{nat_tests}
use Rattle.std.proofs.lemmas.List.{append-nil}
use Rattle.spf_io.specs.Option.{◌>>=◌}
use Rattle.spf_der.specs.Value.{IsTag, Value, value_at, tagged_at, whole_at, optional_at}
use Rattle.spf_der.specs.Types.{object_identifier_at, integer_at, small_of, small_integer_at}
use Rattle.spf_der.specs.Types.{boolean_of, flag_of, default_false_at, is_bit_string}
use Rattle.spf_der.specs.Types.{after_bit_string_at, after_algorithm_at}
use Rattle.spf_der.specs.Time.{unix_of, time_at}
use Rattle.spf_der.specs.Grammar.{joined, IdentifierText, IntegerText, SmallText, BitsText, AnyText}
use Rattle.spf_der.specs.Grammar.{AlgorithmText, TimeText, FlagText}
use Rattle.spf_der.proofs.Steps.{chosen, bind_some, passed, failed}
use Rattle.spf_der.proofs.Values.{Octets, MaybeTaken, begins, some_is, no_rest, not_zero}
use Rattle.spf_der.proofs.Values.{tagged_again, tagged_taken, value_again, value_taken, whole_again}
use Rattle.spf_der.proofs.Values.{optional_again, optional_taken}

-- a piece was taken from the start
pub record Piece (P : List ℕ → Type 0) (bytes rest : List ℕ) : Type 0 where
  pub text : List ℕ
  pub is : P text
  pub cut : bytes ≡ text ++ rest
  pub outer : Octets rest

-- and nothing followed it
pub whole_piece : (P : List ℕ → Type 0) (bytes rest : List ℕ) → rest ≡ [] → Piece P bytes rest
    → P bytes
whole_piece P bytes rest none piece =
    subst P (sym (piece.cut ∙ ap (λ (z : List ℕ). piece.text ++ z) none ∙ append-nil piece.text))
    piece.is

pub octet_of : (tag : ℕ) → nat_lt tag 256 ≡ true → tag < 256
octet_of tag is = ltb-true tag 256 is

pub tag_of : (tag : ℕ) → nat_eq (bit_and tag 31) 31 ≡ false → IsTag tag
tag_of tag is = eqb-false (bit_and tag 31) 31 is

pub not_empty : (xs : List ℕ) → xs ≢ [] → nat_eq (length xs) 0 ≡ false
not_empty [] some = absurd (some refl)
not_empty (x ∷ xs) some = not_zero (length (x ∷ xs)) (omega arith)

pub some_from : (xs : List ℕ) → nat_eq (length xs) 0 ≡ false → xs ≢ []
some_from [] is = cc
some_from (x ∷ xs) is = λ e. cc

pub not_ended : (b : List ℕ) (tag : ℕ) (contents rest : List ℕ) → Value b tag contents
    → nat_eq (length (b ++ rest)) 0 ≡ false
not_ended b tag contents rest value =
    let size = ap (length {A = ℕ}) (begins b tag contents rest value) in
    not_zero (length (b ++ rest)) (omega (arith, size))

-- a value of another tag stands instead
pub absent : (b : List ℕ) (tag other : ℕ) (contents rest : List ℕ) → Value b other contents
    → nat_eq other tag ≡ false → optional_at tag (b ++ rest) ≡ Some (None, b ++ rest)
unfolding optional_at
absent b tag other contents rest value differs =
    ap (optional_at tag) (begins b other contents rest value)
    ∙ rw differs (ap (λ (z : List ℕ). Some (None, z)) (sym (begins b other contents rest value)))

pub whole_ends : (b : List ℕ) (tag : ℕ) (contents : List ℕ) → Value b tag contents
    → whole_at tag (b ++ []) ≡ Some contents
whole_ends b tag contents value =
    ap (whole_at tag) (append-nil b) ∙ whole_again b tag contents value

-- ---- identifiers and numbers

pub identifier_again : (b oid rest : List ℕ) → IdentifierText b oid
    → object_identifier_at (b ++ rest) ≡ Some (oid, rest)
unfolding object_identifier_at
identifier_again b oid rest text =
    rw (tagged_again b 6 oid rest text.value, not_empty oid text.some) refl

pub identifier_taken : (bytes oid rest : List ℕ) → Octets bytes
    → object_identifier_at bytes ≡ Some (oid, rest) → Piece (λ b. IdentifierText b oid) bytes rest
unfolding object_identifier_at
identifier_taken bytes oid rest o is =
    let found : (v : List ℕ × List ℕ) × (tagged_at 6 bytes ≡ Some v)
    × (cond (nat_eq (length v.0) 0) None (Some v) ≡ Some (oid, rest)) =
    bind_some {B = List ℕ × List ℕ} (tagged_at 6 bytes)
    (λ v. cond (nat_eq (length v.0) 0) None (Some v)) (oid, rest) is in
    let v = found.0 in
    let taken = tagged_taken 6 bytes v.0 v.1 (octet_of 6 refl) (tag_of 6 refl) o found.1 in
    let some = failed (nat_eq (length v.0) 0) v (oid, rest) found.2 in
    subst (λ (y : List ℕ × List ℕ). Piece (λ b. IdentifierText b y.0) bytes y.1) some.1
    (record {
      text = taken.text;
      is = record { value = taken.value; some = some_from v.0 some.0 };
      cut = taken.cut;
      outer = taken.outer;
    })

pub integer_again : (b number rest : List ℕ) → IntegerText b number
    → integer_at (b ++ rest) ≡ Some (number, rest)
unfolding integer_at
integer_again b number rest text =
    rw (tagged_again b 2 number rest text.value, not_empty number text.some) refl

pub integer_taken : (bytes number rest : List ℕ) → Octets bytes
    → integer_at bytes ≡ Some (number, rest) → Piece (λ b. IntegerText b number) bytes rest
unfolding integer_at
integer_taken bytes number rest o is =
    let found : (v : List ℕ × List ℕ) × (tagged_at 2 bytes ≡ Some v)
    × (cond (nat_eq (length v.0) 0) None (Some v) ≡ Some (number, rest)) =
    bind_some {B = List ℕ × List ℕ} (tagged_at 2 bytes)
    (λ v. cond (nat_eq (length v.0) 0) None (Some v)) (number, rest) is in
    let v = found.0 in
    let taken = tagged_taken 2 bytes v.0 v.1 (octet_of 2 refl) (tag_of 2 refl) o found.1 in
    let some = failed (nat_eq (length v.0) 0) v (number, rest) found.2 in
    subst (λ (y : List ℕ × List ℕ). Piece (λ b. IntegerText b y.0) bytes y.1) some.1
    (record {
      text = taken.text;
      is = record { value = taken.value; some = some_from v.0 some.0 };
      cut = taken.cut;
      outer = taken.outer;
    })

pub small_again : (most : ℕ) (b : List ℕ) (n : ℕ) (rest : List ℕ) → SmallText most b n
    → small_integer_at most (b ++ rest) ≡ Some (n, rest)
unfolding small_integer_at
small_again most b n rest text =
    rw (tagged_again b 2 (n ∷ []) rest text.value, le-leb n most text.within) refl

small_is : (most : ℕ) (contents : List ℕ) (n : ℕ) → small_of most contents ≡ Some n
    → (contents ≡ n ∷ []) × (n ≤ most)
small_is most [] n is = cc
small_is most (m ∷ []) n is =
    let low = passed (nat_le m most) m n is in (
      ap (λ (k : ℕ). k ∷ []) low.1,
      subst (λ (k : ℕ). k ≤ most) low.1 (grind (arith, nat_tests, low.0)),
    )
small_is most (m ∷ k ∷ ms) n is = cc

pub small_taken : (most : ℕ) (bytes : List ℕ) (n : ℕ) (rest : List ℕ) → Octets bytes
    → small_integer_at most bytes ≡ Some (n, rest) → Piece (λ b. SmallText most b n) bytes rest
unfolding small_integer_at
small_taken most bytes n rest o is =
    let found : (v : List ℕ × List ℕ) × (tagged_at 2 bytes ≡ Some v)
    × ((small_of most v.0 >>= λ m. Some (m, v.1)) ≡ Some (n, rest)) =
    bind_some {B = ℕ × List ℕ} (tagged_at 2 bytes) (λ v. small_of most v.0 >>= λ m. Some (m, v.1))
    (n, rest) is in
    let v = found.0 in
    let taken = tagged_taken 2 bytes v.0 v.1 (octet_of 2 refl) (tag_of 2 refl) o found.1 in
    let number : (m : ℕ) × (small_of most v.0 ≡ Some m) × (Some (m, v.1) ≡ Some (n, rest)) =
    bind_some {B = ℕ × List ℕ} (small_of most v.0) (λ m. Some (m, v.1)) (n, rest) found.2 in
    let one = small_is most v.0 number.0 number.1 in
    subst (λ (y : ℕ × List ℕ). Piece (λ b. SmallText most b y.0) bytes y.1)
    (some_is (number.0, v.1) (n, rest) number.2)
    (record {
      text = taken.text;
      is = record {
        value = subst (λ (c : List ℕ). Value taken.text 2 c) one.0 taken.value;
        within = one.1;
      };
      cut = taken.cut;
      outer = taken.outer;
    })

-- ---- bit strings and algorithms

pub bits_again : (b rest : List ℕ) → BitsText 3 b → after_bit_string_at (b ++ rest) ≡ Some rest
unfolding after_bit_string_at
bits_again b rest text = rw (tagged_again b 3 text.bits rest text.value, text.is_bits) refl

pub bits_taken : (bytes rest : List ℕ) → Octets bytes → after_bit_string_at bytes ≡ Some rest
    → Piece (BitsText 3) bytes rest
unfolding after_bit_string_at
bits_taken bytes rest o is =
    let found : (v : List ℕ × List ℕ) × (tagged_at 3 bytes ≡ Some v)
    × (cond (is_bit_string v.0) (Some v.1) None ≡ Some rest) =
    bind_some {B = List ℕ} (tagged_at 3 bytes) (λ v. cond (is_bit_string v.0) (Some v.1) None) rest
    is in
    let v = found.0 in
    let taken = tagged_taken 3 bytes v.0 v.1 (octet_of 3 refl) (tag_of 3 refl) o found.1 in
    let good = passed (is_bit_string v.0) v.1 rest found.2 in
    subst (Piece (BitsText 3) bytes) good.1
    (record {
      text = taken.text;
      is = record { bits = v.0; value = taken.value; is_bits = good.0 };
      cut = taken.cut;
      outer = taken.outer;
    })

pub algorithm_again : (b rest : List ℕ) → AlgorithmText b
    → after_algorithm_at (b ++ rest) ≡ Some rest
unfolding after_algorithm_at
algorithm_again b rest text =
    let outer =
    tagged_again b 48 (joined (text.identifier ∷ text.parameters ∷ [])) rest text.value in
    let named =
    identifier_again text.identifier text.oid (text.parameters ++ []) text.identifier_is in
    elim text.parameters_are [
      | inl none ↦ rw (outer, named, none) refl
      | inr any ↦
          rw (
            outer,
            named,
            not_ended text.parameters any.tag any.contents [] any.value,
            value_again text.parameters any.tag any.contents [] any.value,
          ) refl
    ]

-- the parameters of an algorithm, and what follows it
abbrev parameters_then : List ℕ → List ℕ → Option (List ℕ)
parameters_then rest parameters =
    cond (nat_eq (length parameters) 0) (Some rest)
    (value_at parameters >>= λ v. cond (nat_eq (length v.2) 0) (Some rest) None)

parameters_taken : (after parameters rest : List ℕ) → Octets parameters
    → parameters_then after parameters ≡ Some rest
    → ((parameters ≡ []) ⊎ AnyText parameters) × (after ≡ rest)
parameters_taken after parameters rest o is =
    ⊎_elim (λ p. (inl (no_rest parameters p.0), some_is after rest p.1)) (λ p.
    let found : (v : ℕ × List ℕ × List ℕ) × (value_at parameters ≡ Some v)
    × (cond (nat_eq (length v.2) 0) (Some after) None ≡ Some rest) =
    bind_some {B = List ℕ} (value_at parameters)
    (λ v. cond (nat_eq (length v.2) 0) (Some after) None) rest p.1 in
    let v = found.0 in
    let taken = value_taken parameters v.0 v.1 v.2 o found.1 in
    let end = passed (nat_eq (length v.2) 0) after rest found.2 in
    let piece : Piece AnyText parameters v.2 = record {
      text = taken.text;
      is = record { tag = v.0; contents = v.1; value = taken.value };
      cut = taken.cut;
      outer = taken.outer;
    } in
    (inr (whole_piece AnyText parameters v.2 (no_rest v.2 end.0) piece), end.1))
    (chosen (nat_eq (length parameters) 0) (Some after)
    (value_at parameters >>= λ v. cond (nat_eq (length v.2) 0) (Some after) None) (Some rest) is)

pub algorithm_taken : (bytes rest : List ℕ) → Octets bytes → after_algorithm_at bytes ≡ Some rest
    → Piece AlgorithmText bytes rest
unfolding after_algorithm_at
algorithm_taken bytes rest o is =
    let found : (v : List ℕ × List ℕ) × (tagged_at 48 bytes ≡ Some v)
    × ((object_identifier_at v.0 >>= λ oid. parameters_then v.1 oid.1) ≡ Some rest) =
    bind_some {B = List ℕ} (tagged_at 48 bytes)
    (λ v. object_identifier_at v.0 >>= λ oid. parameters_then v.1 oid.1) rest is in
    let v = found.0 in
    let taken = tagged_taken 48 bytes v.0 v.1 (octet_of 48 refl) (tag_of 48 refl) o found.1 in
    let oid : (x : List ℕ × List ℕ) × (object_identifier_at v.0 ≡ Some x)
    × (parameters_then v.1 x.1 ≡ Some rest) =
    bind_some {B = List ℕ} (object_identifier_at v.0) (λ x. parameters_then v.1 x.1) rest found.2 in
    let named = identifier_taken v.0 oid.0.0 oid.0.1 taken.inner oid.1 in
    let after = parameters_taken v.1 oid.0.1 rest named.outer oid.2 in
    let order : v.0 ≡ joined (named.text ∷ oid.0.1 ∷ []) =
    named.cut ∙ ap (λ (z : List ℕ). named.text ++ z) (sym (append-nil oid.0.1)) in
    let text : AlgorithmText taken.text = record {
      oid = oid.0.0;
      identifier = named.text;
      parameters = oid.0.1;
      value = subst (λ (c : List ℕ). Value taken.text 48 c) order taken.value;
      identifier_is = named.is;
      parameters_are = after.0;
    } in
    subst (Piece AlgorithmText bytes) after.1
    (record { text = taken.text; is = text; cut = taken.cut; outer = taken.outer })

-- ---- times and flags

pub time_again : (b : List ℕ) (moment : ℤ) (rest : List ℕ) → TimeText b moment
    → time_at (b ++ rest) ≡ Some (moment, rest)
unfolding time_at
time_again b moment rest text =
    rw (value_again b text.tag text.contents rest text.value, text.means) refl

pub time_taken : (bytes : List ℕ) (moment : ℤ) (rest : List ℕ) → Octets bytes
    → time_at bytes ≡ Some (moment, rest) → Piece (λ b. TimeText b moment) bytes rest
unfolding time_at
time_taken bytes moment rest o is =
    let found : (v : ℕ × List ℕ × List ℕ) × (value_at bytes ≡ Some v)
    × ((unix_of v.0 v.1 >>= λ m. Some (m, v.2)) ≡ Some (moment, rest)) =
    bind_some {B = ℤ × List ℕ} (value_at bytes) (λ v. unix_of v.0 v.1 >>= λ m. Some (m, v.2))
    (moment, rest) is in
    let v = found.0 in
    let taken = value_taken bytes v.0 v.1 v.2 o found.1 in
    let when : (m : ℤ) × (unix_of v.0 v.1 ≡ Some m) × (Some (m, v.2) ≡ Some (moment, rest)) =
    bind_some {B = ℤ × List ℕ} (unix_of v.0 v.1) (λ m. Some (m, v.2)) (moment, rest) found.2 in
    subst (λ (y : ℤ × List ℕ). Piece (λ b. TimeText b y.0) bytes y.1)
    (some_is (when.0, v.2) (moment, rest) when.2)
    (record {
      text = taken.text;
      is = record { tag = v.0; contents = v.1; value = taken.value; means = when.1 };
      cut = taken.cut;
      outer = taken.outer;
    })

pub flag_again : (b : List ℕ) (ca : Bool) (rest : List ℕ) → FlagText b ca
    → optional_at 1 rest ≡ Some (None, rest) → default_false_at (b ++ rest) ≡ Some (ca, rest)
unfolding default_false_at
flag_again b true rest text none = rw (optional_again b 1 (255 ∷ []) rest text) refl
flag_again b false rest text none =
    elim text [
      | inl empty ↦ rw (empty, none) refl
      | inr there ↦ rw (optional_again b 1 (0 ∷ []) rest there) refl
    ]

boolean_is : (contents : List ℕ) (ca : Bool) → boolean_of contents ≡ Some ca
    → contents ≡ cond ca 255 0 ∷ []
boolean_is [] ca is = cc
boolean_is (octet ∷ []) ca is =
    ⊎_elim (λ p.
    let flag : ca ≡ true = sym (some_is true ca p.1) in
    rw (flag, eqb-true octet 255 p.0) refl) (λ p.
    let zero = passed (nat_eq octet 0) false ca p.1 in
    rw (sym zero.1, eqb-true octet 0 zero.0) refl)
    (chosen (nat_eq octet 255) (Some true) (cond (nat_eq octet 0) (Some false) None) (Some ca) is)
boolean_is (octet ∷ other ∷ octets) ca is = cc

flag_text : (text contents : List ℕ) (ca : Bool) → contents ≡ cond ca 255 0 ∷ []
    → Value text 1 contents → FlagText text ca
flag_text text contents true is value = subst (λ (c : List ℕ). Value text 1 c) is value
flag_text text contents false is value = inr (subst (λ (c : List ℕ). Value text 1 c) is value)

flag_from : (bytes : List ℕ) (found : Option (List ℕ)) (ca : Bool) (rest : List ℕ)
    → MaybeTaken 1 bytes found rest → flag_of found ≡ Some ca
    → Piece (λ b. FlagText b ca) bytes rest
flag_from bytes None ca rest taken is =
    let left_out : Piece (λ b. FlagText b false) bytes rest = record {
      text = [];
      is = inl refl;
      cut = taken.0;
      outer = taken.1;
    } in
    subst (λ (c : Bool). Piece (λ b. FlagText b c) bytes rest) (some_is false ca is) left_out
flag_from bytes (Some contents) ca rest taken is =
    record {
      text = taken.text;
      is = flag_text taken.text contents ca (boolean_is contents ca is) taken.value;
      cut = taken.cut;
      outer = taken.outer;
    }

pub flag_taken : (bytes : List ℕ) (ca : Bool) (rest : List ℕ) → Octets bytes
    → default_false_at bytes ≡ Some (ca, rest) → Piece (λ b. FlagText b ca) bytes rest
unfolding default_false_at
flag_taken bytes ca rest o is =
    let found : (v : Option (List ℕ) × List ℕ) × (optional_at 1 bytes ≡ Some v)
    × ((flag_of v.0 >>= λ f. Some (f, v.1)) ≡ Some (ca, rest)) =
    bind_some {B = Bool × List ℕ} (optional_at 1 bytes) (λ v. flag_of v.0 >>= λ f. Some (f, v.1))
    (ca, rest) is in
    let v = found.0 in
    let read : (f : Bool) × (flag_of v.0 ≡ Some f) × (Some (f, v.1) ≡ Some (ca, rest)) =
    bind_some {B = Bool × List ℕ} (flag_of v.0) (λ f. Some (f, v.1)) (ca, rest) found.2 in
    let taken = optional_taken 1 bytes v.0 v.1 (octet_of 1 refl) (tag_of 1 refl) o found.1 in
    subst (λ (y : Bool × List ℕ). Piece (λ b. FlagText b y.0) bytes y.1)
    (some_is (read.0, v.1) (ca, rest) read.2) (flag_from bytes v.0 read.0 v.1 taken read.1)
