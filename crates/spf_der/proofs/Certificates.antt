-- The parts of a certificate, each level of them: what is
-- read is in the grammar, and what is in the grammar is read.
use Rattle.std.proofs.Common.{◌≡◌, ℕ, ◌+◌, ◌⊎◌, inl, inr, ⊎_elim, Bool, true, false, cond, List, []}
use Rattle.std.proofs.Common.{◌∷◌, ◌++◌, length, Option, Some, None, nat_eq, refl, sym, ap, subst}
use Rattle.std.proofs.Common.{◌∙◌, arith, ℤ, ◌||◌}
use Rattle.std.proofs.lemmas.Bool.Decides.{nat_tests}
use Rattle.std.proofs.lemmas.List.{append-nil}
use Rattle.spf_io.specs.Option.{◌>>=◌}
use Rattle.spf_der.specs.Value.{IsTag, Value, contents_at, tagged_at, optional_at}
use Rattle.spf_der.specs.Types.{small_integer_at, after_bit_string_at, after_algorithm_at}
use Rattle.spf_der.specs.Time.{time_at}
use Rattle.spf_der.specs.Certificate.{ends, is_version, after_version_at, validity_at}
use Rattle.spf_der.specs.Certificate.{after_public_key_at, after_unique_id_at, extension_text_of}
use Rattle.spf_der.specs.Certificate.{extension_text_at}
use Rattle.spf_der.specs.Grammar.{joined, SmallText, VersionText, ValidityText, PublicKeyText}
use Rattle.spf_der.specs.Grammar.{NamedText, UniqueIdText, ExtensionsText}
use Rattle.spf_der.proofs.Steps.{chosen, bind_some, passed}
use Rattle.spf_der.proofs.Values.{Octets, MaybeTaken, begins, some_is, no_rest, same_number}
use Rattle.spf_der.proofs.Values.{contents_again, contents_taken, tagged_again, tagged_taken}
use Rattle.spf_der.proofs.Values.{whole_again, whole_taken, optional_again, optional_taken}
use Rattle.spf_der.proofs.Values.{taken_from}
use Rattle.spf_der.proofs.Pieces.{Piece, whole_piece, octet_of, tag_of, small_again, small_taken}
use Rattle.spf_der.proofs.Pieces.{bits_again, bits_taken, algorithm_again, algorithm_taken}
use Rattle.spf_der.proofs.Pieces.{time_again, time_taken}

-- ---- the version

pub version_again : (b rest : List ℕ) → VersionText b → optional_at 160 rest ≡ Some (None, rest)
    → after_version_at (b ++ rest) ≡ Some rest
unfolding after_version_at
version_again b rest text none =
    elim text [
      | inl empty ↦ rw (empty, none) refl
      | inr there ↦
          let number : small_integer_at 2 there.inner ≡ Some (there.number, []) =
          ap (small_integer_at 2) (sym (append-nil there.inner))
          ∙ small_again 2 there.inner there.number [] there.number_is in
          rw (optional_again b 160 there.inner rest there.value, number) refl
    ]

ends_some : (found : Option (ℕ × List ℕ)) → ends found ≡ true → (n : ℕ) × (found ≡ Some (n, []))
ends_some None is = cc
ends_some (Some (n, rest)) is = (n, ap (λ (z : List ℕ). Some (n, z)) (no_rest rest is))

version_from : (bytes : List ℕ) (found : Option (List ℕ)) (rest : List ℕ)
    → MaybeTaken 160 bytes found rest → is_version found ≡ true → Piece VersionText bytes rest
version_from bytes None rest taken is = record {
  text = [];
  is = inl refl;
  cut = taken.0;
  outer = taken.1;
}
version_from bytes (Some inner) rest taken is =
    let number = ends_some (small_integer_at 2 inner) is in
    let small =
    whole_piece (λ b. SmallText 2 b number.0) inner [] refl
    (small_taken 2 inner number.0 [] taken.inner number.1) in
    record {
      text = taken.text;
      is = inr (record {
        inner = inner;
        number = number.0;
        value = taken.value;
        number_is = small;
      });
      cut = taken.cut;
      outer = taken.outer;
    }

pub version_taken : (bytes rest : List ℕ) → Octets bytes → after_version_at bytes ≡ Some rest
    → Piece VersionText bytes rest
unfolding after_version_at
version_taken bytes rest o is =
    let found : (v : Option (List ℕ) × List ℕ) × (optional_at 160 bytes ≡ Some v)
    × (cond (is_version v.0) (Some v.1) None ≡ Some rest) =
    bind_some {B = List ℕ} (optional_at 160 bytes) (λ v. cond (is_version v.0) (Some v.1) None) rest
    is in
    let v = found.0 in
    let taken = optional_taken 160 bytes v.0 v.1 (octet_of 160 refl) (tag_of 160 refl) o found.1 in
    let good = passed (is_version v.0) v.1 rest found.2 in
    subst (Piece VersionText bytes) good.1 (version_from bytes v.0 v.1 taken good.0)

-- ---- the validity

pub validity_again : (b : List ℕ) (expiry : ℤ) (rest : List ℕ) → ValidityText b expiry
    → validity_at (b ++ rest) ≡ Some (expiry, rest)
unfolding validity_at
validity_again b expiry rest text =
    rw (
      tagged_again b 48 (joined (text.start ∷ text.end ∷ [])) rest text.value,
      time_again text.start text.moment (text.end ++ []) text.start_is,
      time_again text.end expiry [] text.end_is,
    ) refl

pub validity_taken : (bytes : List ℕ) (expiry : ℤ) (rest : List ℕ) → Octets bytes
    → validity_at bytes ≡ Some (expiry, rest) → Piece (λ b. ValidityText b expiry) bytes rest
unfolding validity_at
validity_taken bytes expiry rest o is =
    let found : (v : List ℕ × List ℕ) × (tagged_at 48 bytes ≡ Some v)
    × ((time_at v.0 >>= λ s. time_at s.1
    >>= λ e. cond (nat_eq (length e.1) 0) (Some (e.0, v.1)) None) ≡ Some (expiry, rest)) =
    bind_some {B = ℤ × List ℕ} (tagged_at 48 bytes)
    (λ v. time_at v.0 >>= λ s. time_at s.1
    >>= λ e. cond (nat_eq (length e.1) 0) (Some (e.0, v.1)) None) (expiry, rest) is in
    let v = found.0 in
    let start : (s : ℤ × List ℕ) × (time_at v.0 ≡ Some s)
    × ((time_at s.1 >>= λ e. cond (nat_eq (length e.1) 0) (Some (e.0, v.1)) None)
    ≡ Some (expiry, rest)) =
    bind_some {B = ℤ × List ℕ} (time_at v.0)
    (λ s. time_at s.1 >>= λ e. cond (nat_eq (length e.1) 0) (Some (e.0, v.1)) None) (expiry, rest)
    found.2 in
    let s = start.0 in
    let end : (e : ℤ × List ℕ) × (time_at s.1 ≡ Some e)
    × (cond (nat_eq (length e.1) 0) (Some (e.0, v.1)) None ≡ Some (expiry, rest)) =
    bind_some {B = ℤ × List ℕ} (time_at s.1)
    (λ e. cond (nat_eq (length e.1) 0) (Some (e.0, v.1)) None) (expiry, rest) start.2 in
    let e = end.0 in
    let last = passed (nat_eq (length e.1) 0) (e.0, v.1) (expiry, rest) end.2 in
    let taken = tagged_taken 48 bytes v.0 v.1 (octet_of 48 refl) (tag_of 48 refl) o found.1 in
    let first = time_taken v.0 s.0 s.1 taken.inner start.1 in
    let second = time_taken s.1 e.0 e.1 first.outer end.1 in
    let order : v.0 ≡ joined (first.text ∷ second.text ∷ []) =
    first.cut ∙ ap (λ (z : List ℕ). first.text ++ z)
    (second.cut ∙ ap (λ (z : List ℕ). second.text ++ z) (no_rest e.1 last.0)) in
    let text : ValidityText taken.text e.0 = record {
      moment = s.0;
      start = first.text;
      end = second.text;
      value = subst (λ (c : List ℕ). Value taken.text 48 c) order taken.value;
      start_is = first.is;
      end_is = second.is;
    } in
    subst (λ (y : ℤ × List ℕ). Piece (λ b. ValidityText b y.0) bytes y.1) last.1
    (record { text = taken.text; is = text; cut = taken.cut; outer = taken.outer })

-- ---- the public key

pub public_key_again : (b rest : List ℕ) → PublicKeyText b
    → after_public_key_at (b ++ rest) ≡ Some rest
unfolding after_public_key_at
public_key_again b rest text =
    rw (
      tagged_again b 48 (joined (text.algorithm ∷ text.key ∷ [])) rest text.value,
      algorithm_again text.algorithm (text.key ++ []) text.algorithm_is,
      bits_again text.key [] text.key_is,
    ) refl

pub public_key_taken : (bytes rest : List ℕ) → Octets bytes → after_public_key_at bytes ≡ Some rest
    → Piece PublicKeyText bytes rest
unfolding after_public_key_at
public_key_taken bytes rest o is =
    let found : (v : List ℕ × List ℕ) × (tagged_at 48 bytes ≡ Some v)
    × ((after_algorithm_at v.0 >>= λ k. after_bit_string_at k
    >>= λ e. cond (nat_eq (length e) 0) (Some v.1) None) ≡ Some rest) =
    bind_some {B = List ℕ} (tagged_at 48 bytes)
    (λ v. after_algorithm_at v.0 >>= λ k. after_bit_string_at k
    >>= λ e. cond (nat_eq (length e) 0) (Some v.1) None) rest is in
    let v = found.0 in
    let key : (k : List ℕ) × (after_algorithm_at v.0 ≡ Some k)
    × ((after_bit_string_at k >>= λ e. cond (nat_eq (length e) 0) (Some v.1) None) ≡ Some rest) =
    bind_some {B = List ℕ} (after_algorithm_at v.0)
    (λ k. after_bit_string_at k >>= λ e. cond (nat_eq (length e) 0) (Some v.1) None) rest found.2 in
    let end : (e : List ℕ) × (after_bit_string_at key.0 ≡ Some e)
    × (cond (nat_eq (length e) 0) (Some v.1) None ≡ Some rest) =
    bind_some {B = List ℕ} (after_bit_string_at key.0)
    (λ e. cond (nat_eq (length e) 0) (Some v.1) None) rest key.2 in
    let last = passed (nat_eq (length end.0) 0) v.1 rest end.2 in
    let taken = tagged_taken 48 bytes v.0 v.1 (octet_of 48 refl) (tag_of 48 refl) o found.1 in
    let first = algorithm_taken v.0 key.0 taken.inner key.1 in
    let second = bits_taken key.0 end.0 first.outer end.1 in
    let order : v.0 ≡ joined (first.text ∷ second.text ∷ []) =
    first.cut ∙ ap (λ (z : List ℕ). first.text ++ z)
    (second.cut ∙ ap (λ (z : List ℕ). second.text ++ z) (no_rest end.0 last.0)) in
    let text : PublicKeyText taken.text = record {
      algorithm = first.text;
      key = second.text;
      value = subst (λ (c : List ℕ). Value taken.text 48 c) order taken.value;
      algorithm_is = first.is;
      key_is = second.is;
    } in
    subst (Piece PublicKeyText bytes) last.1
    (record { text = taken.text; is = text; cut = taken.cut; outer = taken.outer })

-- ---- unique identifiers

or_true : (a : Bool) → (a || true) ≡ true
or_true true = refl
or_true false = refl

pub unique_id_again : (number : ℕ) (b rest : List ℕ) → UniqueIdText number b
    → after_unique_id_at number rest ≡ Some rest → after_unique_id_at number (b ++ rest) ≡ Some rest
unfolding after_unique_id_at
unique_id_again number b rest text none =
    elim text [
      | inl empty ↦ rw empty none
      | inr there ↦ elim there.value [
        | inl value ↦
            ap (after_unique_id_at number) (begins b (128 + number) there.contents rest value)
            ∙ rw (same_number (128 + number), contents_again there.contents rest value.fits.short)
            refl
        | inr value ↦
            ap (after_unique_id_at number) (begins b (160 + number) there.contents rest value)
            ∙ rw (
              same_number (160 + number),
              or_true (nat_eq (160 + number) (128 + number)),
              contents_again there.contents rest value.fits.short,
            ) refl
      ]
    ]

either : (a b : Bool) → (a || b) ≡ true → (a ≡ true) ⊎ (b ≡ true)
either true b is = inl refl
either false b is = inr is

named_tag : (number tag : ℕ) (contents text : List ℕ)
    → (nat_eq tag (128 + number) || nat_eq tag (160 + number)) ≡ true → Value text tag contents
    → NamedText number text
named_tag number tag contents text is value =
    elim (either (nat_eq tag (128 + number)) (nat_eq tag (160 + number)) is) [
      | inl low ↦ let same : tag ≡ 128 + number = grind (arith, nat_tests, low) in
          record {
            contents = contents;
            value = inl (subst (λ (t : ℕ). Value text t contents) same value);
          }
      | inr high ↦ let same : tag ≡ 160 + number = grind (arith, nat_tests, high) in
          record {
            contents = contents;
            value = inr (subst (λ (t : ℕ). Value text t contents) same value);
          }
    ]

pub unique_id_taken : (number : ℕ) (bytes rest : List ℕ)
    → ((tag : ℕ) → (nat_eq tag (128 + number) || nat_eq tag (160 + number)) ≡ true → IsTag tag)
    → Octets bytes → after_unique_id_at number bytes ≡ Some rest
    → Piece (UniqueIdText number) bytes rest
unfolding after_unique_id_at
unique_id_taken number [] rest tags o is =
    subst (Piece (UniqueIdText number) []) (some_is [] rest is)
    (record { text = []; is = inl refl; cut = refl; outer = o })
unique_id_taken number (tag ∷ bytes) rest tags o is =
    ⊎_elim (λ p.
    let found : (v : List ℕ × List ℕ) × (contents_at bytes ≡ Some v) × (Some v.1 ≡ Some rest) =
    bind_some {B = List ℕ} (contents_at bytes) (λ v. Some v.1) rest p.1 in
    let v = found.0 in
    let taken =
    taken_from tag bytes v.0 v.1 o.0 (tags tag p.0) (contents_taken bytes v.0 v.1 o.1 found.1) in
    subst (Piece (UniqueIdText number) (tag ∷ bytes)) (some_is v.1 rest found.2)
    (record {
      text = taken.text;
      is = inr (named_tag number tag v.0 taken.text p.0 taken.value);
      cut = taken.cut;
      outer = taken.outer;
    }))
    (λ p. subst (Piece (UniqueIdText number) (tag ∷ bytes)) (some_is (tag ∷ bytes) rest p.1)
    (record { text = []; is = inl refl; cut = refl; outer = o }))
    (chosen (nat_eq tag (128 + number) || nat_eq tag (160 + number))
    (contents_at bytes >>= λ v. Some v.1) (Some (tag ∷ bytes)) (Some rest) is)

pub tags_1 : (tag : ℕ) → (nat_eq tag 129 || nat_eq tag 161) ≡ true → IsTag tag
tags_1 tag is =
    elim (either (nat_eq tag 129) (nat_eq tag 161) is) [
      | inl low ↦ let same : 129 ≡ tag = grind (arith, nat_tests, low) in
          subst IsTag same (tag_of 129 refl)
      | inr high ↦ let same : 161 ≡ tag = grind (arith, nat_tests, high) in
          subst IsTag same (tag_of 161 refl)
    ]

pub tags_2 : (tag : ℕ) → (nat_eq tag 130 || nat_eq tag 162) ≡ true → IsTag tag
tags_2 tag is =
    elim (either (nat_eq tag 130) (nat_eq tag 162) is) [
      | inl low ↦ let same : 130 ≡ tag = grind (arith, nat_tests, low) in
          subst IsTag same (tag_of 130 refl)
      | inr high ↦ let same : 162 ≡ tag = grind (arith, nat_tests, high) in
          subst IsTag same (tag_of 162 refl)
    ]

-- ---- the extensions

pub listed_again : (b list : List ℕ) → ExtensionsText b list
    → extension_text_at (b ++ []) ≡ Some list
unfolding extension_text_at optional_at
listed_again b list text =
    elim text [
      | inl none ↦ rw (none.0, none.1) refl
      | inr there ↦
          rw (
            optional_again b 163 there.inner [] there.value,
            whole_again there.inner 48 list there.list_is,
          ) refl
    ]

listed_from : (bytes : List ℕ) (found : Option (List ℕ)) (rest list : List ℕ)
    → MaybeTaken 163 bytes found rest → rest ≡ [] → extension_text_of found ≡ Some list
    → ExtensionsText bytes list
listed_from bytes None rest list taken end is = inl (taken.0 ∙ end, sym (some_is [] list is))
listed_from bytes (Some inner) rest list taken end is =
    let whole = whole_taken 48 inner list (octet_of 48 refl) (tag_of 48 refl) taken.inner is in
    let piece : Piece (λ b. ExtensionsText b list) bytes rest = record {
      text = taken.text;
      is = inr (record { inner = inner; value = taken.value; list_is = whole.value });
      cut = taken.cut;
      outer = taken.outer;
    } in
    whole_piece (λ b. ExtensionsText b list) bytes rest end piece

octets_listed : (found : Option (List ℕ)) (bytes rest list : List ℕ)
    → MaybeTaken 163 bytes found rest → extension_text_of found ≡ Some list → Octets list
octets_listed None bytes rest list taken is = subst Octets (some_is [] list is) tt
octets_listed (Some inner) bytes rest list taken is =
    (whole_taken 48 inner list (octet_of 48 refl) (tag_of 48 refl) taken.inner is).inner

pub listed_taken : (bytes list : List ℕ) → Octets bytes → extension_text_at bytes ≡ Some list
    → ExtensionsText bytes list × Octets list
unfolding extension_text_at
listed_taken bytes list o is =
    let found : (v : Option (List ℕ) × List ℕ) × (optional_at 163 bytes ≡ Some v)
    × (cond (nat_eq (length v.1) 0) (extension_text_of v.0) None ≡ Some list) =
    bind_some {B = List ℕ} (optional_at 163 bytes)
    (λ v. cond (nat_eq (length v.1) 0) (extension_text_of v.0) None) list is in
    let v = found.0 in
    let taken = optional_taken 163 bytes v.0 v.1 (octet_of 163 refl) (tag_of 163 refl) o found.1 in
    ⊎_elim (λ p. (
      listed_from bytes v.0 v.1 list taken (no_rest v.1 p.0) p.1,
      octets_listed v.0 bytes v.1 list taken p.1,
    )) (λ p. cc (p.1))
    (chosen (nat_eq (length v.1) 0) (extension_text_of v.0) None (Some list) found.2)
