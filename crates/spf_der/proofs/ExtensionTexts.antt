-- What is read of the three extensions is in the grammar, and what is in the grammar is read.
use Rattle.std.proofs.Common.{◌≡◌, ℕ, zero, suc, ◌<◌, ◌≤◌, ◌⊎◌, inl, inr, Bool, true, false, cond}
use Rattle.std.proofs.Common.{not, List, [], ◌∷◌, ◌++◌, length, drop, Option, Some, None, nat_eq}
use Rattle.std.proofs.Common.{refl, sym, ap, subst, ◌∙◌, arith, length-append}
use Rattle.std.specs.Prelude.{◌↔◌}
use Rattle.std.proofs.lemmas.List.{append-nil}
use Rattle.spf_io.specs.Option.{◌>>=◌}
use Rattle.spf_der.specs.Value.{IsBytes, Value, value_at, whole_at, optional_at}
use Rattle.spf_der.specs.Types.{default_false_at, is_bit_string}
use Rattle.spf_der.specs.Extensions.{usage_bits, key_usage_of, is_path_length, basic_constraints_of}
use Rattle.spf_der.specs.Names.{name_of, name_at, with_name, uris_within, uris_of, san_uris_of}
use Rattle.spf_der.specs.Grammar.{joined}
use Rattle.spf_der.specs.ExtensionGrammar.{UsageText, NumberText, ConstraintsText, NameText}
use Rattle.spf_der.specs.ExtensionGrammar.{NameTexts, uris_among, NamesText}
use Rattle.spf_der.specs.declared.extensions.KeyUsageBits.{KeyUsageBits}
use Rattle.spf_der.proofs.Steps.{both_true, bind_some, passed}
use Rattle.spf_der.proofs.Values.{Octets, octets_from, MaybeTaken, begins, some_is, no_rest}
use Rattle.spf_der.proofs.Values.{value_again, value_taken, whole_again, whole_taken}
use Rattle.spf_der.proofs.Values.{optional_again, optional_taken}
use Rattle.spf_der.proofs.Pieces.{Piece, whole_piece, octet_of, tag_of, absent, not_empty}
use Rattle.spf_der.proofs.Pieces.{some_from, flag_again, flag_taken}

not_true : (b : Bool) → not b ≡ true → b ≡ false
not_true true is = cc
not_true false is = refl

-- ---- key usage

usage_taken : (b : List ℕ) (usage : KeyUsageBits) → Octets b → key_usage_of b ≡ Some usage
    → UsageText b usage
unfolding key_usage_of
usage_taken b usage o is =
    let found : (bits : List ℕ) × (whole_at 3 b ≡ Some bits)
    × (cond (is_bit_string bits) (Some (usage_bits (drop 1 bits))) None ≡ Some usage) =
    bind_some {B = KeyUsageBits} (whole_at 3 b)
    (λ bits. cond (is_bit_string bits) (Some (usage_bits (drop 1 bits))) None) usage is in
    let whole = whole_taken 3 b found.0 (octet_of 3 refl) (tag_of 3 refl) o found.1 in
    let good = passed (is_bit_string found.0) (usage_bits (drop 1 found.0)) usage found.2 in
    record { bits = found.0; value = whole.value; is_bits = good.0; means = good.1 }

usage_again : (b : List ℕ) (usage : KeyUsageBits) → UsageText b usage → key_usage_of b ≡ Some usage
unfolding key_usage_of
usage_again b usage text =
    rw (whole_again b 3 text.bits text.value, text.is_bits)
    (ap (λ (u : KeyUsageBits). Some u) text.means)

pub usage_exact : (b : List ℕ) (usage : KeyUsageBits) → IsBytes b
    → (key_usage_of b ≡ Some usage) ↔ UsageText b usage
usage_exact b usage all = (usage_taken b usage (octets_from b all), usage_again b usage)

-- ---- basic constraints

PathText : List ℕ → Type 0
PathText path = (path ≡ []) ⊎ NumberText path

no_flag : (path : List ℕ) → PathText path → optional_at 1 (path ++ []) ≡ Some (None, path ++ [])
unfolding optional_at PathText
no_flag path text =
    elim text [
      | inl none ↦ rw none refl
      | inr there ↦ absent path 1 2 there.number [] there.number_is.value refl
    ]

path_again : (path : List ℕ) → PathText path
    → (x : Option (List ℕ) × List ℕ) × (optional_at 2 (path ++ []) ≡ Some x)
    × (is_path_length x ≡ true)
unfolding optional_at PathText
path_again path text =
    elim text [
      | inl none ↦ ((None, []), rw none refl, refl)
      | inr there ↦ (
        (Some there.number, []),
        optional_again path 2 there.number [] there.number_is.value,
        rw (not_empty there.number there.number_is.some) refl,
      )
    ]

path_from : (bytes : List ℕ) (found : Option (List ℕ)) (rest : List ℕ)
    → MaybeTaken 2 bytes found rest → is_path_length (found, rest) ≡ true → PathText bytes
unfolding PathText
path_from bytes None rest taken is = inl (taken.0 ∙ no_rest rest is)
path_from bytes (Some number) rest taken is =
    let tests = both_true (not (nat_eq (length number) 0)) (nat_eq (length rest) 0) is in
    let piece : Piece NumberText bytes rest = record {
      text = taken.text;
      is = record {
        number = number;
        number_is = record {
          value = taken.value;
          some = some_from number (not_true (nat_eq (length number) 0) tests.0);
        };
      };
      cut = taken.cut;
      outer = taken.outer;
    } in
    inr (whole_piece NumberText bytes rest (no_rest rest tests.1) piece)

constraints_again : (b : List ℕ) (ca : Bool) → ConstraintsText b ca
    → basic_constraints_of b ≡ Some ca
unfolding basic_constraints_of PathText
constraints_again b ca text =
    let path = path_again text.path text.path_is in
    rw (
      whole_again b 48 (joined (text.flag ∷ text.path ∷ [])) text.value,
      flag_again text.flag ca (text.path ++ []) text.flag_is (no_flag text.path text.path_is),
      path.1,
      path.2,
    ) refl

constraints_taken : (bytes : List ℕ) (ca : Bool) → Octets bytes
    → basic_constraints_of bytes ≡ Some ca → ConstraintsText bytes ca
unfolding basic_constraints_of PathText
constraints_taken bytes ca o is =
    let a : (i : List ℕ) × (whole_at 48 bytes ≡ Some i)
    × ((default_false_at i >>= λ f. optional_at 2 f.1
    >>= λ n. cond (is_path_length n) (Some f.0) None) ≡ Some ca) =
    bind_some {B = Bool} (whole_at 48 bytes)
    (λ i. default_false_at i >>= λ f. optional_at 2 f.1
    >>= λ n. cond (is_path_length n) (Some f.0) None) ca is in
    let b : (f : Bool × List ℕ) × (default_false_at a.0 ≡ Some f)
    × ((optional_at 2 f.1 >>= λ n. cond (is_path_length n) (Some f.0) None) ≡ Some ca) =
    bind_some {B = Bool} (default_false_at a.0)
    (λ f. optional_at 2 f.1 >>= λ n. cond (is_path_length n) (Some f.0) None) ca a.2 in
    let c : (n : Option (List ℕ) × List ℕ) × (optional_at 2 b.0.1 ≡ Some n)
    × (cond (is_path_length n) (Some b.0.0) None ≡ Some ca) =
    bind_some {B = Bool} (optional_at 2 b.0.1) (λ n. cond (is_path_length n) (Some b.0.0) None) ca
    b.2 in
    let good = passed (is_path_length c.0) b.0.0 ca c.2 in
    let whole = whole_taken 48 bytes a.0 (octet_of 48 refl) (tag_of 48 refl) o a.1 in
    let flag = flag_taken a.0 b.0.0 b.0.1 whole.inner b.1 in
    let path = path_from b.0.1 c.0.0 c.0.1
    (optional_taken 2 b.0.1 c.0.0 c.0.1 (octet_of 2 refl) (tag_of 2 refl) flag.outer c.1) good.0 in
    let order : a.0 ≡ joined (flag.text ∷ b.0.1 ∷ []) =
    flag.cut ∙ ap (λ (z : List ℕ). flag.text ++ z) (sym (append-nil b.0.1)) in
    let text : ConstraintsText bytes b.0.0 = record {
      flag = flag.text;
      path = b.0.1;
      value = subst (λ (z : List ℕ). Value bytes 48 z) order whole.value;
      flag_is = flag.is;
      path_is = path;
    } in
    subst (ConstraintsText bytes) good.1 text

pub constraints_exact : (b : List ℕ) (ca : Bool) → IsBytes b
    → (basic_constraints_of b ≡ Some ca) ↔ ConstraintsText b ca
constraints_exact b ca all = (constraints_taken b ca (octets_from b all), constraints_again b ca)

-- ---- names

name_again : (b : List ℕ) (uri : Option (List ℕ)) (rest : List ℕ) → NameText b uri
    → name_at (b ++ rest) ≡ Some (uri, rest)
unfolding name_at
name_again b uri rest text =
    rw (value_again b text.tag text.contents rest text.value, text.means) refl

name_taken : (bytes : List ℕ) (uri : Option (List ℕ)) (rest : List ℕ) → Octets bytes
    → name_at bytes ≡ Some (uri, rest) → Piece (λ b. NameText b uri) bytes rest
unfolding name_at
name_taken bytes uri rest o is =
    let found : (v : ℕ × List ℕ × List ℕ) × (value_at bytes ≡ Some v)
    × ((name_of v.0 v.1 >>= λ u. Some (u, v.2)) ≡ Some (uri, rest)) =
    bind_some {B = Option (List ℕ) × List ℕ} (value_at bytes)
    (λ v. name_of v.0 v.1 >>= λ u. Some (u, v.2)) (uri, rest) is in
    let v = found.0 in
    let name : (u : Option (List ℕ)) × (name_of v.0 v.1 ≡ Some u)
    × (Some (u, v.2) ≡ Some (uri, rest)) =
    bind_some {B = Option (List ℕ) × List ℕ} (name_of v.0 v.1) (λ u. Some (u, v.2)) (uri, rest)
    found.2 in
    let taken = value_taken bytes v.0 v.1 v.2 o found.1 in
    subst (λ (y : Option (List ℕ) × List ℕ). Piece (λ b. NameText b y.0) bytes y.1)
    (some_is (name.0, v.2) (uri, rest) name.2)
    (record {
      text = taken.text;
      is = record { tag = v.0; contents = v.1; value = taken.value; means = name.1 };
      cut = taken.cut;
      outer = taken.outer;
    })

more : (n : ℕ) (b : List ℕ) (uri : Option (List ℕ)) (after : List ℕ) → 0 < length b
    → name_at b ≡ Some (uri, after)
    → uris_within (suc n) b ≡ (uris_within n after >>= λ uris. Some (with_name uri uris))
more n [] uri after some is = absurd (omega arith)
more n (b ∷ bytes) uri after some is = rw is refl

names_again : (names : List (Option (List ℕ))) (b : List ℕ) (n : ℕ) → NameTexts b names
    → length b ≤ n → uris_within n b ≡ Some (uris_among names)
names_again [] b n texts long = rw texts refl
names_again (name ∷ names) b zero (front, others, cut, first, rest) long =
    let size = ap (length {A = ℕ})
    (cut ∙ begins front first.tag first.contents others first.value) in
    absurd (omega (arith, size))
names_again (name ∷ names) b (suc n) (front, others, cut, first, rest) long =
    let size = ap (length {A = ℕ})
    (cut ∙ begins front first.tag first.contents others first.value) in
    let whole = ap (length {A = ℕ}) cut in
    let beginning = ap (length {A = ℕ}) (begins front first.tag first.contents [] first.value) in
    let some : 0 < length b = omega (arith, size) in
    let short : length others ≤ n =
    omega (arith, whole, beginning, long, length-append front others, length-append front []) in
    more n b name others some (ap name_at cut ∙ name_again front name others first)
    ∙ rw (names_again names others n rest short) refl

-- names were read
record Named (b : List ℕ) (uris : List (List ℕ)) : Type 0 where
  names : List (Option (List ℕ))
  texts : NameTexts b names
  means : uris_among names ≡ uris

names_taken : (n : ℕ) (b : List ℕ) (uris : List (List ℕ)) → Octets b → uris_within n b ≡ Some uris
    → Named b uris
names_taken n [] uris o is = record { names = []; texts = refl; means = some_is [] uris is }
names_taken zero (b ∷ bytes) uris o is = cc
names_taken (suc n) (b ∷ bytes) uris o is =
    let first : (x : Option (List ℕ) × List ℕ) × (name_at (b ∷ bytes) ≡ Some x)
    × ((uris_within n x.1 >>= λ us. Some (with_name x.0 us)) ≡ Some uris) =
    bind_some {B = List (List ℕ)} (name_at (b ∷ bytes))
    (λ x. uris_within n x.1 >>= λ us. Some (with_name x.0 us)) uris is in
    let x = first.0 in
    let others : (us : List (List ℕ)) × (uris_within n x.1 ≡ Some us)
    × (Some (with_name x.0 us) ≡ Some uris) =
    bind_some {B = List (List ℕ)} (uris_within n x.1) (λ us. Some (with_name x.0 us)) uris
    first.2 in
    let piece = name_taken (b ∷ bytes) x.0 x.1 o first.1 in
    let rest = names_taken n x.1 others.0 piece.outer others.1 in
    record {
      names = x.0 ∷ rest.names;
      texts = (piece.text, x.1, piece.cut, piece.is, rest.texts);
      means = ap (with_name x.0) rest.means ∙ some_is (with_name x.0 others.0) uris others.2;
    }

san_taken : (b : List ℕ) (uris : List (List ℕ)) → Octets b → san_uris_of b ≡ Some uris
    → NamesText b uris
unfolding san_uris_of
san_taken b uris o is =
    let found : (i : List ℕ) × (whole_at 48 b ≡ Some i) × (uris_of i ≡ Some uris) =
    bind_some {B = List (List ℕ)} (whole_at 48 b) uris_of uris is in
    let whole = whole_taken 48 b found.0 (octet_of 48 refl) (tag_of 48 refl) o found.1 in
    let named = names_taken (length found.0) found.0 uris whole.inner found.2 in
    record {
      inner = found.0;
      names = named.names;
      value = whole.value;
      names_are = named.texts;
      means = named.means;
    }

san_again : (b : List ℕ) (uris : List (List ℕ)) → NamesText b uris → san_uris_of b ≡ Some uris
unfolding san_uris_of
san_again b uris text =
    rw (whole_again b 48 text.inner text.value)
    (names_again text.names text.inner (length text.inner) text.names_are (omega arith)
    ∙ ap (λ (us : List (List ℕ)). Some us) text.means)

pub names_exact : (b : List ℕ) (uris : List (List ℕ)) → IsBytes b
    → (san_uris_of b ≡ Some uris) ↔ NamesText b uris
names_exact b uris all = (san_taken b uris (octets_from b all), san_again b uris)
