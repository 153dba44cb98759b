-- What is read as a key is in the grammar, and what is in the grammar is read.
use Rattle.std.proofs.Common.{◌≡◌, ℕ, ◌⊎◌, inl, inr, Bool, true, false, List, [], ◌∷◌, ◌++◌, length}
use Rattle.std.proofs.Common.{Option, Some, None, nat_eq, refl, sym, ap, subst, ◌∙◌, ◌&&◌}
use Rattle.std.specs.Prelude.{◌↔◌}
use Rattle.std.proofs.lemmas.Bool.{eqb-true}
use Rattle.std.proofs.lemmas.List.{append-nil}
use Rattle.spf_io.specs.Option.{◌>>=◌}
use Rattle.spf_der.specs.Value.{Value, IsBytes, tagged_at, whole_at, optional_at}
use Rattle.spf_der.specs.Types.{small_integer_at, after_algorithm_at, is_bit_string}
use Rattle.spf_der.specs.Key.{is_public_key, key_at, is_key}
use Rattle.spf_der.specs.Grammar.{joined, BitsText, AttributesText, KeyText}
use Rattle.spf_der.proofs.Steps.{both_true, bind_some}
use Rattle.spf_der.proofs.Values.{Octets, octets_from, MaybeTaken, some_is, no_rest, tagged_again}
use Rattle.spf_der.proofs.Values.{tagged_taken, whole_again, whole_taken, optional_again}
use Rattle.spf_der.proofs.Values.{optional_taken}
use Rattle.spf_der.proofs.Pieces.{Piece, whole_piece, octet_of, tag_of, absent, small_again}
use Rattle.spf_der.proofs.Pieces.{small_taken, algorithm_again, algorithm_taken}

abbrev PublicText : ℕ → List ℕ → Type 0
PublicText version b = ((version ≡ 0) × (b ≡ [])) ⊎ ((version ≡ 1) × BitsText 129 b)

public_again : (version : ℕ) (b : List ℕ) → PublicText version b
    → (x : Option (List ℕ) × List ℕ) × (optional_at 129 (b ++ []) ≡ Some x)
    × (is_public_key version x ≡ true)
unfolding optional_at
public_again version b text =
    elim text [
      | inl none ↦ ((None, []), rw (none.1) refl, rw (none.0) refl)
      | inr there ↦ (
        (Some there.1.bits, []),
        optional_again b 129 there.1.bits [] there.1.value,
        rw (there.0, there.1.is_bits) refl,
      )
    ]

no_attributes : (version : ℕ) (b : List ℕ) → PublicText version b
    → optional_at 160 (b ++ []) ≡ Some (None, b ++ [])
unfolding optional_at
no_attributes version b text =
    elim text [
      | inl none ↦ rw (none.1) refl
      | inr there ↦ absent b 160 129 there.1.bits [] there.1.value refl
    ]

attributes_again : (a rest : List ℕ) → (a ≡ []) ⊎ AttributesText a
    → optional_at 160 rest ≡ Some (None, rest)
    → (x : Option (List ℕ)) × (optional_at 160 (a ++ rest) ≡ Some (x, rest))
attributes_again a rest text none =
    elim text [
      | inl empty ↦ (None, rw empty none)
      | inr there ↦ (Some there.contents, optional_again a 160 there.contents rest there.value)
    ]

key_reads : (b : List ℕ) → KeyText b → key_at b ≡ Some true
unfolding key_at
key_reads b t =
    let p = t.public_key ++ [] in
    let a = t.attributes ++ p in
    let attributes =
    attributes_again t.attributes p t.attributes_are
    (no_attributes t.version t.public_key t.public_key_is) in
    let public = public_again t.version t.public_key t.public_key_is in
    rw (
      whole_again b 48
          (joined (t.number ∷ t.algorithm ∷ t.octets ∷ t.attributes ∷ t.public_key ∷ [])) t.value,
      small_again 1 t.number t.version (t.algorithm ++ (t.octets ++ a)) t.number_is,
      algorithm_again t.algorithm (t.octets ++ a) t.algorithm_is,
      tagged_again t.octets 4 t.key a t.octets_are,
      attributes.1,
      public.1,
      public.2,
    ) refl

attributes_from : (bytes : List ℕ) (found : Option (List ℕ)) (rest : List ℕ)
    → MaybeTaken 160 bytes found rest → Piece (λ b. (b ≡ []) ⊎ AttributesText b) bytes rest
attributes_from bytes None rest taken = record {
  text = [];
  is = inl refl;
  cut = taken.0;
  outer = taken.1;
}
attributes_from bytes (Some contents) rest taken = record {
  text = taken.text;
  is = inr (record { contents = contents; value = taken.value });
  cut = taken.cut;
  outer = taken.outer;
}

public_from : (version : ℕ) (bytes : List ℕ) (found : Option (List ℕ)) (rest : List ℕ)
    → MaybeTaken 129 bytes found rest → is_public_key version (found, rest) ≡ true
    → PublicText version bytes
public_from version bytes None rest taken is =
    let tests = both_true (nat_eq version 0) (nat_eq (length rest) 0) is in
    inl (eqb-true version 0 tests.0, taken.0 ∙ no_rest rest tests.1)
public_from version bytes (Some bits) rest taken is =
    let tests = both_true (nat_eq version 1 && is_bit_string bits) (nat_eq (length rest) 0) is in
    let more = both_true (nat_eq version 1) (is_bit_string bits) tests.0 in
    let piece : Piece (BitsText 129) bytes rest = record {
      text = taken.text;
      is = record { bits = bits; value = taken.value; is_bits = more.1 };
      cut = taken.cut;
      outer = taken.outer;
    } in
    inr (
      eqb-true version 1 more.0,
      whole_piece (BitsText 129) bytes rest (no_rest rest tests.1) piece,
    )

key_taken : (bytes : List ℕ) → Octets bytes → key_at bytes ≡ Some true → KeyText bytes
unfolding key_at
key_taken bytes o is =
    let a : (i : List ℕ) × (whole_at 48 bytes ≡ Some i)
    × ((small_integer_at 1 i >>= λ v. after_algorithm_at v.1 >>= λ k. tagged_at 4 k
    >>= λ t. optional_at 160 t.1 >>= λ p. optional_at 129 p.1
    >>= λ e. Some (is_public_key v.0 e)) ≡ Some true) =
    bind_some {B = Bool} (whole_at 48 bytes)
    (λ i. small_integer_at 1 i >>= λ v. after_algorithm_at v.1 >>= λ k. tagged_at 4 k
    >>= λ t. optional_at 160 t.1 >>= λ p. optional_at 129 p.1
    >>= λ e. Some (is_public_key v.0 e)) true is in
    let i = a.0 in
    let b : (v : ℕ × List ℕ) × (small_integer_at 1 i ≡ Some v)
    × ((after_algorithm_at v.1 >>= λ k. tagged_at 4 k >>= λ t. optional_at 160 t.1
    >>= λ p. optional_at 129 p.1 >>= λ e. Some (is_public_key v.0 e)) ≡ Some true) =
    bind_some {B = Bool} (small_integer_at 1 i)
    (λ v. after_algorithm_at v.1 >>= λ k. tagged_at 4 k >>= λ t. optional_at 160 t.1
    >>= λ p. optional_at 129 p.1 >>= λ e. Some (is_public_key v.0 e)) true a.2 in
    let v = b.0 in
    let c : (k : List ℕ) × (after_algorithm_at v.1 ≡ Some k)
    × ((tagged_at 4 k >>= λ t. optional_at 160 t.1 >>= λ p. optional_at 129 p.1
    >>= λ e. Some (is_public_key v.0 e)) ≡ Some true) =
    bind_some {B = Bool} (after_algorithm_at v.1)
    (λ k. tagged_at 4 k >>= λ t. optional_at 160 t.1 >>= λ p. optional_at 129 p.1
    >>= λ e. Some (is_public_key v.0 e)) true b.2 in
    let d : (t : List ℕ × List ℕ) × (tagged_at 4 c.0 ≡ Some t)
    × ((optional_at 160 t.1 >>= λ p. optional_at 129 p.1 >>= λ e. Some (is_public_key v.0 e))
    ≡ Some true) =
    bind_some {B = Bool} (tagged_at 4 c.0)
    (λ t. optional_at 160 t.1 >>= λ p. optional_at 129 p.1 >>= λ e. Some (is_public_key v.0 e)) true
    c.2 in
    let t = d.0 in
    let e : (p : Option (List ℕ) × List ℕ) × (optional_at 160 t.1 ≡ Some p)
    × ((optional_at 129 p.1 >>= λ x. Some (is_public_key v.0 x)) ≡ Some true) =
    bind_some {B = Bool} (optional_at 160 t.1)
    (λ p. optional_at 129 p.1 >>= λ x. Some (is_public_key v.0 x)) true d.2 in
    let p = e.0 in
    let f : (x : Option (List ℕ) × List ℕ) × (optional_at 129 p.1 ≡ Some x)
    × (Some (is_public_key v.0 x) ≡ Some true) =
    bind_some {B = Bool} (optional_at 129 p.1) (λ x. Some (is_public_key v.0 x)) true e.2 in
    let x = f.0 in
    let whole = whole_taken 48 bytes i (octet_of 48 refl) (tag_of 48 refl) o a.1 in
    let number = small_taken 1 i v.0 v.1 whole.inner b.1 in
    let algorithm = algorithm_taken v.1 c.0 number.outer c.1 in
    let octets = tagged_taken 4 c.0 t.0 t.1 (octet_of 4 refl) (tag_of 4 refl) algorithm.outer d.1 in
    let attributes =
    attributes_from t.1 p.0 p.1
    (optional_taken 160 t.1 p.0 p.1 (octet_of 160 refl) (tag_of 160 refl) octets.outer e.1) in
    let public =
    public_from v.0 p.1 x.0 x.1
    (optional_taken 129 p.1 x.0 x.1 (octet_of 129 refl) (tag_of 129 refl) attributes.outer f.1)
    (some_is (is_public_key v.0 x) true f.2) in
    let order : i
    ≡ joined (number.text ∷ algorithm.text ∷ octets.text ∷ attributes.text ∷ p.1 ∷ []) =
    number.cut ∙ ap (λ (z : List ℕ). number.text ++ z)
    (algorithm.cut
    ∙ ap (λ (z : List ℕ). algorithm.text ++ z)
    (octets.cut
    ∙ ap (λ (z : List ℕ). octets.text ++ z)
    (attributes.cut ∙ ap (λ (z : List ℕ). attributes.text ++ z) (sym (append-nil p.1))))) in
    record {
      version = v.0;
      key = t.0;
      number = number.text;
      algorithm = algorithm.text;
      octets = octets.text;
      attributes = attributes.text;
      public_key = p.1;
      value = subst (λ (z : List ℕ). Value bytes 48 z) order whole.value;
      number_is = number.is;
      algorithm_is = algorithm.is;
      octets_are = octets.value;
      attributes_are = attributes.is;
      public_key_is = public;
    }

answer_is : (bytes : List ℕ) (found : Option Bool) → key_at bytes ≡ found → is_key bytes ≡ true
    → found ≡ Some true
answer_is bytes None at is = let no : is_key bytes ≡ false = rw at refl in cc (no, is)
answer_is bytes (Some b) at is = let same : is_key bytes ≡ b = rw at refl in cc (same, is)

-- the whole of the bytes is a key, both ways
pub key_exact : (bytes : List ℕ) → IsBytes bytes → (is_key bytes ≡ true) ↔ KeyText bytes
key_exact bytes all = (
  λ is. key_taken bytes (octets_from bytes all) (answer_is bytes (key_at bytes) refl is),
  λ text. rw (key_reads bytes text) refl,
)
