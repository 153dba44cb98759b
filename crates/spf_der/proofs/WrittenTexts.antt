-- What is written is a certificate of the grammar, and is read as it was meant.
use Rattle.std.proofs.Common.{◌≡◌, ◌≢◌, ℕ, zero, suc, ◌/◌, ◌%◌, ◌^◌, ◌<◌, ◌≤◌, inl, inr, Bool, true}
use Rattle.std.proofs.Common.{false, cond, List, [], ◌∷◌, ◌++◌, length, Option, Some, None, Ok}
use Rattle.std.proofs.Common.{nat_lt, refl, sym, ap, subst, ◌∙◌, append_assoc, arith, length-append}
use Rattle.std.proofs.Common.{ℤ, pos}
use Rattle.std.specs.Prelude.{flat_map, codes, unsigned_abs, ◌+ℤ◌, ◌*ℤ◌}
use Rattle.std.specs.List.{list_all}
use Rattle.std.proofs.lemmas.Bool.{cases_lt}
use Rattle.std.proofs.lemmas.List.{append-nil}
use Rattle.jiff_core.specs.Calendar.{days_from_civil}
use Rattle.jiff_core.proofs.CalendarLemmas.{day_count-epoch, days_from_civil-day_count}
use Rattle.jiff_core.proofs.SignedLemmas.{signed_arith}
use Rattle.spf_io.specs.Option.{◌>>=◌}
use Rattle.spf_der.specs.Value.{IsTag, IsBytes, Value, value_text, length_octets, length_at}
use Rattle.spf_der.specs.Value.{contents_at, tagged_at, whole_at, optional_at}
use Rattle.spf_der.specs.Types.{default_false_at, small_integer_at, after_algorithm_at}
use Rattle.spf_der.specs.Types.{object_identifier_at}
use Rattle.spf_der.specs.Extensions.{key_usage_of, basic_constraints_of}
use Rattle.spf_der.specs.Names.{name_at, uris_within, san_uris_of}
use Rattle.spf_der.specs.Part.{Parts}
use Rattle.spf_der.specs.Read.{certificate_rule}
use Rattle.spf_der.specs.Time.{utc_time, clock_of, moment_of, day_number_of}
use Rattle.spf_der.specs.WrittenTime.{IsTimeText, time_tag}
use Rattle.spf_der.specs.Written.{algorithm_text, no_bits, no_name, usage_text, constraints_text}
use Rattle.spf_der.specs.Written.{names_text, extension_text, usage_part, constraints_part}
use Rattle.spf_der.specs.Written.{names_part, extensions_text, version_text, extensions_part}
use Rattle.spf_der.specs.Written.{validity_text, public_key_text, tbs_text, certificate_text}
use Rattle.spf_der.specs.Written.{IsCertificateOf, key_text}
use Rattle.spf_der.specs.ReadsBack.{Holds, some_uris, AreAscii, ReadsBack}
use Rattle.spf_der.specs.declared.certificate.ExtensionPart.{ExtensionPart}
use Rattle.spf_der.specs.declared.extensions.KeyUsageBits.{KeyUsageBits}
use Rattle.spf_der.specs.declared.writer.CertSpec.{CertSpec}
use Rattle.spf_der.specs.Grammar.{joined, IntegerText, BitsText, AlgorithmText, VersionText}
use Rattle.spf_der.specs.Grammar.{TimeText, ValidityText, PublicKeyText, ExtensionText}
use Rattle.spf_der.specs.Grammar.{ExtensionTexts, ExtensionsText, TbsText, CertText}
use Rattle.spf_der.specs.Key.{is_key, key_at}
use Rattle.spf_der.proofs.Steps.{both_true}
use Rattle.spf_der.proofs.Values.{Octets, octets_from, form_5, whole_again, value_again}
use Rattle.spf_der.proofs.Pieces.{octet_of, tag_of}
use Rattle.spf_der.proofs.Exact.{certificate_reads}

-- ---- lengths

IsShort : List ℕ → Type 0
IsShort bytes = length bytes < 2 ^ 32

short_left : (a b : List ℕ) → IsShort (a ++ b) → IsShort a
unfolding IsShort
short_left a b short = omega (arith, short, length-append a b)

short_right : (a b : List ℕ) → IsShort (a ++ b) → IsShort b
unfolding IsShort
short_right a b short = omega (arith, short, length-append a b)

short_inner : (tag : ℕ) (contents : List ℕ) → IsShort (value_text tag contents) → IsShort contents
unfolding IsShort
short_inner tag contents short =
    let size : length (value_text tag contents)
    ≡ suc (length (length_octets (length contents) ++ contents)) = refl in
    omega (arith, short, size, length-append (length_octets (length contents)) contents)

-- a value of octets is short
short_octets : (tag : ℕ) (contents : List ℕ) → Octets (value_text tag contents) → IsShort contents
unfolding IsShort
short_octets tag contents o =
    elim (cases_lt (length contents) (2 ^ 32)) [
      | inl short ↦ short
      | inr long ↦
          let n = length contents in
          let spelled : length_octets n
          ≡ 132 ∷ n / 16777216 ∷ n / 65536 % 256 ∷ n / 256 % 256 ∷ n % 256 ∷ [] =
          form_5 n (omega (arith, long)) in
          let each = subst (λ (z : List ℕ). Octets (tag ∷ (z ++ contents))) spelled o in
          absurd (omega (arith, long, each.1.1.0))
    ]

made : (tag : ℕ) (contents : List ℕ) → nat_lt tag 256 ≡ true → IsTag tag → IsShort contents
    → Value (value_text tag contents) tag contents
unfolding IsShort
made tag contents octet is_tag short =
    record {
      fits = record { octet = octet_of tag octet; tag_ok = is_tag; short = short };
      spelled = refl;
    }

few : (contents : List ℕ) → length contents ≤ 100 → IsShort contents
unfolding IsShort
few contents le = omega (arith, le)

-- ---- the fixed pieces

algorithm_is : AlgorithmText algorithm_text
unfolding length_octets
algorithm_is =
    let oid : List ℕ = 43 ∷ 101 ∷ 112 ∷ [] in
    record {
      oid = oid;
      identifier = value_text 6 oid;
      parameters = [];
      value = made 48 (value_text 6 oid) refl (tag_of 48 refl)
          (few (value_text 6 oid) (omega arith));
      identifier_is = record {
        value = made 6 oid refl (tag_of 6 refl) (few oid (omega arith));
        some = λ e. cc;
      };
      parameters_are = inl refl;
    }

bits_are : BitsText 3 no_bits
bits_are = record {
  bits = 0 ∷ [];
  value = made 3 (0 ∷ []) refl (tag_of 3 refl) (few (0 ∷ []) (omega arith));
  is_bits = refl;
}

name_is : Value no_name 48 []
name_is = made 48 [] refl (tag_of 48 refl) (few [] (omega arith))

public_key_is : PublicKeyText public_key_text
unfolding length_octets
public_key_is =
    record {
      algorithm = algorithm_text;
      key = no_bits;
      value = made 48 (algorithm_text ++ no_bits) refl (tag_of 48 refl)
          (few (algorithm_text ++ no_bits) (omega arith));
      algorithm_is = algorithm_is;
      key_is = bits_are;
    }

version_is : (extensions : List ℕ) → VersionText (version_text extensions)
unfolding length_octets
version_is [] = inl refl
version_is (x ∷ extensions) =
    inr (record {
      inner = value_text 2 (2 ∷ []);
      number = 2;
      value = made 160 (value_text 2 (2 ∷ [])) refl (tag_of 160 refl)
          (few (value_text 2 (2 ∷ [])) (omega arith));
      number_is =
          record {
            value = made 2 (2 ∷ []) refl (tag_of 2 refl) (few (2 ∷ []) (omega arith));
            within = omega arith;
          };
    })

serial_is : (serial : ℕ) → IntegerText (value_text 2 (serial ∷ [])) (serial ∷ [])
serial_is serial =
    record {
      value = made 2 (serial ∷ []) refl (tag_of 2 refl) (few (serial ∷ []) (omega arith));
      some = λ e. cc;
    }

listed_are : (extensions : List ℕ) → IsShort (extensions_part extensions)
    → ExtensionsText (extensions_part extensions) extensions
listed_are [] short = inl (refl, refl)
listed_are (x ∷ extensions) short =
    let list = value_text 48 (x ∷ extensions) in
    let inner = short_inner 163 list short in
    inr (record {
      inner = list;
      value = made 163 list refl (tag_of 163 refl) inner;
      list_is = made 48 (x ∷ extensions) refl (tag_of 48 refl)
          (short_inner 48 (x ∷ extensions) inner);
    })

-- ---- times

pub epoch : days_from_civil (pos 1970) 1 1 ≡ pos 0
epoch = omega (arith, signed_arith, days_from_civil-day_count (pos 1970) 1 1, day_count-epoch)

first_second : utc_time (codes "700101000000Z") ≡ Some (pos 0)
unfolding utc_time clock_of moment_of day_number_of
first_second = ap (λ (z : ℤ). Some ((z *ℤ pos 86400) +ℤ pos 0)) epoch

start_is : TimeText (value_text 23 (codes "700101000000Z")) (pos 0)
start_is = record {
  tag = 23;
  contents = codes "700101000000Z";
  value = made 23 (codes "700101000000Z") refl (tag_of 23 refl)
      (few (codes "700101000000Z") (omega arith));
  means = first_second;
}

early_or_late : (b : Bool) → nat_lt (cond b 23 24) 256 ≡ true
early_or_late true = refl
early_or_late false = refl

time_tag_is : (b : Bool) → IsTag (cond b 23 24)
time_tag_is true = tag_of 23 refl
time_tag_is false = tag_of 24 refl

time_is : (moment : ℤ) (time : List ℕ) → IsTimeText moment time → IsShort time
    → TimeText time moment
unfolding IsShort
time_is moment time text short =
    let early = nat_lt (unsigned_abs moment) 2524608000 in
    let inner = short_inner (time_tag moment) text.contents (subst IsShort text.spelled short) in
    record {
      tag = time_tag moment;
      contents = text.contents;
      value = record {
        fits = record {
          octet = octet_of (time_tag moment) (early_or_late early);
          tag_ok = time_tag_is early;
          short = inner;
        };
        spelled = text.spelled;
      };
      means = text.means;
    }

validity_is : (time : List ℕ) (expiry : ℤ) → TimeText time expiry → IsShort (validity_text time)
    → ValidityText (validity_text time) expiry
validity_is time expiry text short =
    let start = value_text 23 (codes "700101000000Z") in
    let value =
    made 48 (start ++ time) refl (tag_of 48 refl) (short_inner 48 (start ++ time) short) in
    record {
      moment = pos 0;
      start = start;
      end = time;
      value = subst (λ (z : List ℕ). Value (validity_text time) 48 (start ++ z))
          (sym (append-nil time)) value;
      start_is = start_is;
      end_is = text;
    }

-- ---- extensions

extension_is : (oid contents : List ℕ) → oid ≢ [] → IsShort (extension_text oid contents)
    → ExtensionText (extension_text oid contents) (record { oid = oid; contents = contents })
extension_is oid contents some short =
    let identifier = value_text 6 oid in
    let octets = value_text 4 contents in
    let inner = short_inner 48 (identifier ++ octets) short in
    let value = made 48 (identifier ++ octets) refl (tag_of 48 refl) inner in
    record {
      identifier = identifier;
      is_critical = false;
      critical = [];
      octets = octets;
      value = subst (λ (z : List ℕ). Value (extension_text oid contents) 48 (identifier ++ z))
          (sym (append-nil octets)) value;
      identifier_is =
          record {
            value = made 6 oid refl (tag_of 6 refl)
                (short_inner 6 oid (short_left identifier octets inner));
            some = some;
          };
      critical_is = inl refl;
      octets_are =
          made 4 contents refl (tag_of 4 refl)
          (short_inner 4 contents (short_right identifier octets inner));
    }

texts_append : (es fs : List ExtensionPart) (a b : List ℕ) → ExtensionTexts a es
    → ExtensionTexts b fs → ExtensionTexts (a ++ b) (es ++ fs)
texts_append [] fs a b first second =
    subst (λ (z : List ℕ). ExtensionTexts (z ++ b) fs) (sym first) second
texts_append (e ∷ es) fs a b (text, others, cut, is, rest) second = (
  text,
  others ++ b,
  ap (λ (z : List ℕ). z ++ b) cut ∙ append_assoc text others b,
  is,
  texts_append es fs others b rest second,
)

one_text : (b : List ℕ) (e : ExtensionPart) → ExtensionText b e → ExtensionTexts b (e ∷ [])
one_text b e is = (b, [], sym (append-nil b), is, refl)

-- the extensions of a spec
abbrev usage_extensions : Option KeyUsageBits → List ExtensionPart
usage_extensions None = []
usage_extensions (Some bits) = record { oid = 85 ∷ 29 ∷ 15 ∷ []; contents = usage_text bits } ∷ []

abbrev constraints_extensions : Option Bool → List ExtensionPart
constraints_extensions None = []
constraints_extensions (Some ca) = record {
  oid = 85 ∷ 29 ∷ 19 ∷ [];
  contents = constraints_text ca;
} ∷ []

abbrev names_extensions : List (List ℕ) → List ExtensionPart
names_extensions [] = []
names_extensions (uri ∷ uris) = record {
  oid = 85 ∷ 29 ∷ 17 ∷ [];
  contents = names_text (uri ∷ uris);
} ∷ []

abbrev extensions_of : Option KeyUsageBits → Option Bool → List (List ℕ) → List ExtensionPart
extensions_of usage ca uris =
    usage_extensions usage ++ constraints_extensions ca ++ names_extensions uris

usage_texts : (usage : Option KeyUsageBits) → IsShort (usage_part usage)
    → ExtensionTexts (usage_part usage) (usage_extensions usage)
usage_texts None short = refl
usage_texts (Some bits) short =
    one_text _ _ (extension_is (85 ∷ 29 ∷ 15 ∷ []) (usage_text bits) (λ e. cc) short)

constraints_texts : (ca : Option Bool) → IsShort (constraints_part ca)
    → ExtensionTexts (constraints_part ca) (constraints_extensions ca)
constraints_texts None short = refl
constraints_texts (Some ca) short =
    one_text _ _ (extension_is (85 ∷ 29 ∷ 19 ∷ []) (constraints_text ca) (λ e. cc) short)

names_texts : (uris : List (List ℕ)) → IsShort (names_part uris)
    → ExtensionTexts (names_part uris) (names_extensions uris)
names_texts [] short = refl
names_texts (uri ∷ uris) short =
    one_text _ _ (extension_is (85 ∷ 29 ∷ 17 ∷ []) (names_text (uri ∷ uris)) (λ e. cc) short)

all_texts : (usage : Option KeyUsageBits) (ca : Option Bool) (uris : List (List ℕ))
    → IsShort (usage_part usage ++ constraints_part ca ++ names_part uris)
    → ExtensionTexts (usage_part usage ++ constraints_part ca ++ names_part uris)
    (extensions_of usage ca uris)
all_texts usage ca uris short =
    let front = short_left (usage_part usage ++ constraints_part ca) (names_part uris) short in
    let first = usage_texts usage (short_left (usage_part usage) (constraints_part ca) front) in
    let second =
    constraints_texts ca (short_right (usage_part usage) (constraints_part ca) front) in
    let third =
    names_texts uris
    (short_right (usage_part usage ++ constraints_part ca) (names_part uris) short) in
    texts_append (usage_extensions usage ++ constraints_extensions ca) (names_extensions uris)
    (usage_part usage ++ constraints_part ca) (names_part uris)
    (texts_append (usage_extensions usage) (constraints_extensions ca) (usage_part usage)
    (constraints_part ca) first second) third

short_list : (extensions : List ℕ) → IsShort (extensions_part extensions) → IsShort extensions
short_list [] short = few [] (omega arith)
short_list (x ∷ extensions) short =
    short_inner 48 (x ∷ extensions) (short_inner 163 (value_text 48 (x ∷ extensions)) short)

short_names : (uri : List ℕ) (uris : List (List ℕ)) → IsShort (names_part (uri ∷ uris))
    → IsShort (names_text (uri ∷ uris))
short_names uri uris short =
    let identifier = value_text 6 (85 ∷ 29 ∷ 17 ∷ []) in
    let octets = value_text 4 (names_text (uri ∷ uris)) in
    short_inner 4 (names_text (uri ∷ uris))
    (short_right identifier octets (short_inner 48 (identifier ++ octets) short))

-- ---- the whole

order : (a b c d e f g h : List ℕ)
    → a ++ b ++ c ++ d ++ e ++ f ++ g ++ h ≡ joined (a ∷ b ∷ c ∷ d ∷ e ∷ f ∷ g ∷ [] ∷ [] ∷ h ∷ [])
order a b c d e f g h = simp (append_assoc, append-nil) refl

order_3 : (a b c : List ℕ) → a ++ b ++ c ≡ joined (a ∷ b ∷ c ∷ [])
order_3 a b c = simp (append_assoc, append-nil) refl

tbs_is : (serial : ℕ) (extensions time : List ℕ) (expiry : ℤ) → TimeText time expiry
    → IsShort (validity_text time) → IsShort (extensions_part extensions)
    → TbsText (version_text extensions ++ value_text 2 (serial ∷ []) ++ algorithm_text ++ no_name
    ++ validity_text time ++ no_name ++ public_key_text
    ++ extensions_part extensions) expiry extensions
tbs_is serial extensions time expiry text short short-extensions =
    record {
      version = version_text extensions;
      number = serial ∷ [];
      serial = value_text 2 (serial ∷ []);
      signature = algorithm_text;
      issuer_name = [];
      issuer = no_name;
      validity = validity_text time;
      subject_name = [];
      subject = no_name;
      public_key = public_key_text;
      issuer_id = [];
      subject_id = [];
      extensions = extensions_part extensions;
      order = order (version_text extensions) (value_text 2 (serial ∷ [])) algorithm_text no_name
          (validity_text time) no_name public_key_text (extensions_part extensions);
      version_is = version_is extensions;
      serial_is = serial_is serial;
      signature_is = algorithm_is;
      issuer_is = name_is;
      validity_is = validity_is time expiry text short;
      subject_is = name_is;
      public_key_is = public_key_is;
      issuer_id_is = inl refl;
      subject_id_is = inl refl;
      extensions_are = listed_are extensions short-extensions;
    }

-- the parts of a written certificate
abbrev written_parts : CertSpec → Parts
written_parts spec = record {
  expiry = spec.expiry;
  extensions = extensions_of spec.key_usage spec.ca spec.uris;
}

short_tbs : (spec : CertSpec) (time : List ℕ) → Octets (certificate_text spec time)
    → IsShort (tbs_text spec time)
short_tbs spec time o =
    let inner = value_text 48 (tbs_text spec time) in
    let whole = short_octets 48 (inner ++ algorithm_text ++ no_bits) o in
    short_inner 48 (tbs_text spec time)
    (short_left inner algorithm_text (short_left (inner ++ algorithm_text) no_bits whole))

short_extensions : (spec : CertSpec) (time : List ℕ) → Octets (certificate_text spec time)
    → IsShort (extensions_part (extensions_text spec))
short_extensions spec time o =
    let list = extensions_text spec in
    short_right
    (version_text list ++ value_text 2 (spec.serial ∷ []) ++ algorithm_text ++ no_name
    ++ validity_text time ++ no_name
    ++ public_key_text) (extensions_part list) (short_tbs spec time o)

written_is : (spec : CertSpec) (time : List ℕ) → IsTimeText spec.expiry time
    → Octets (certificate_text spec time)
    → CertText (certificate_text spec time) (written_parts spec)
written_is spec time text o =
    let list = extensions_text spec in
    let tbs = tbs_text spec time in
    let inner = value_text 48 tbs in
    let whole = short_octets 48 (inner ++ algorithm_text ++ no_bits) o in
    let tbs-short = short_tbs spec time o in
    let key = version_text list ++ value_text 2 (spec.serial ∷ []) ++ algorithm_text ++ no_name
    ++ validity_text time ++ no_name ++ public_key_text in
    let subject =
    version_text list ++ value_text 2 (spec.serial ∷ []) ++ algorithm_text ++ no_name
    ++ validity_text time ++ no_name in
    let validity =
    version_text list ++ value_text 2 (spec.serial ∷ []) ++ algorithm_text ++ no_name
    ++ validity_text time in
    let issuer =
    version_text list ++ value_text 2 (spec.serial ∷ []) ++ algorithm_text ++ no_name in
    let list-short = short_extensions spec time o in
    let validity-short =
    short_right issuer (validity_text time)
    (short_left validity no_name
    (short_left subject public_key_text (short_left key (extensions_part list) tbs-short))) in
    let start = value_text 23 (codes "700101000000Z") in
    let time-short = short_right start time (short_inner 48 (start ++ time) validity-short) in
    let contents = made 48 (inner ++ algorithm_text ++ no_bits) refl (tag_of 48 refl) whole in
    record {
      list = list;
      signed = record {
        inner = tbs;
        tbs = inner;
        algorithm = algorithm_text;
        signature = no_bits;
        value = subst (λ (z : List ℕ). Value (certificate_text spec time) 48 z)
            (order_3 inner algorithm_text no_bits) contents;
        tbs_is = made 48 tbs refl (tag_of 48 refl) tbs-short;
        inner_is = tbs_is spec.serial list time spec.expiry
            (time_is spec.expiry time text time-short) validity-short list-short;
        algorithm_is = algorithm_is;
        signature_is = bits_are;
      };
      extensions = all_texts spec.key_usage spec.ca spec.uris (short_list list list-short);
    }

-- ---- what is read

usage_reads_at : (d k c : Bool)
    → key_usage_of (usage_text (record { digital_signature = d; key_cert_sign = k; crl_sign = c }))
    ≡ Some (record { digital_signature = d; key_cert_sign = k; crl_sign = c })
unfolding key_usage_of whole_at tagged_at contents_at length_at length_octets
usage_reads_at true true true = refl
usage_reads_at true true false = refl
usage_reads_at true false true = refl
usage_reads_at true false false = refl
usage_reads_at false true true = refl
usage_reads_at false true false = refl
usage_reads_at false false true = refl
usage_reads_at false false false = refl

usage_reads : (bits : KeyUsageBits) → key_usage_of (usage_text bits) ≡ Some bits
usage_reads bits = usage_reads_at bits.digital_signature bits.key_cert_sign bits.crl_sign

constraints_read : (ca : Bool) → basic_constraints_of (constraints_text ca) ≡ Some ca
unfolding basic_constraints_of default_false_at optional_at whole_at tagged_at contents_at length_at
    length_octets
constraints_read true = refl
constraints_read false = refl

name_reads : (uri rest : List ℕ) → IsShort uri → list_all (λ b. nat_lt b 128) uri ≡ true
    → name_at (value_text 134 uri ++ rest) ≡ Some (Some uri, rest)
unfolding name_at
name_reads uri rest short ascii =
    rw (
      value_again (value_text 134 uri) 134 uri rest (made 134 uri refl (tag_of 134 refl) short),
      ascii,
    ) refl

within_more : (n : ℕ) (b uri after : List ℕ) → 0 < length b → name_at b ≡ Some (Some uri, after)
    → uris_within (suc n) b ≡ (uris_within n after >>= λ uris. Some (uri ∷ uris))
within_more n [] uri after some is = absurd (omega arith)
within_more n (b ∷ bytes) uri after some is = rw is refl

names_read_within : (uris : List (List ℕ)) (n : ℕ) → AreAscii uris
    → IsShort (flat_map (value_text 134) uris) → length (flat_map (value_text 134) uris) ≤ n
    → uris_within n (flat_map (value_text 134) uris) ≡ Some uris
names_read_within [] n ascii short le = refl
names_read_within (uri ∷ uris) zero ascii short le =
    absurd (omega (arith, le, length-append (value_text 134 uri) (flat_map (value_text 134) uris)))
names_read_within (uri ∷ uris) (suc n) ascii short le =
    let others = flat_map (value_text 134) uris in
    let tests =
    both_true (list_all (λ b. nat_lt b 128) uri)
    (list_all (λ u. list_all (λ b. nat_lt b 128) u) uris) ascii in
    let size = length-append (value_text 134 uri) others in
    let first =
    name_reads uri others (short_inner 134 uri (short_left (value_text 134 uri) others short))
    tests.0 in
    within_more n (value_text 134 uri ++ others) uri others (omega (arith, size)) first
    ∙ rw (names_read_within uris n tests.1 (short_right (value_text 134 uri) others short)
    (omega (arith, size, le))) refl

names_read : (uris : List (List ℕ)) → AreAscii uris → IsShort (names_text uris)
    → san_uris_of (names_text uris) ≡ Some uris
unfolding san_uris_of
names_read uris ascii short =
    let names = flat_map (value_text 134) uris in
    let inner = short_inner 48 names short in
    rw (whole_again (names_text uris) 48 names (made 48 names refl (tag_of 48 refl) inner))
    (names_read_within uris (length names) ascii inner (omega arith))

usage_held : (usage : Option KeyUsageBits) (ca : Option Bool) (uris : List (List ℕ))
    → Holds key_usage_of (85 ∷ 29 ∷ 15 ∷ []) usage (extensions_of usage ca uris)
usage_held None None [] = refl
usage_held None None (uri ∷ uris) = refl
usage_held None (Some ca) [] = refl
usage_held None (Some ca) (uri ∷ uris) = refl
usage_held (Some bits) None [] = (usage_text bits, refl, usage_reads bits)
usage_held (Some bits) None (uri ∷ uris) = (usage_text bits, refl, usage_reads bits)
usage_held (Some bits) (Some ca) [] = (usage_text bits, refl, usage_reads bits)
usage_held (Some bits) (Some ca) (uri ∷ uris) = (usage_text bits, refl, usage_reads bits)

ca_held : (usage : Option KeyUsageBits) (ca : Option Bool) (uris : List (List ℕ))
    → Holds basic_constraints_of (85 ∷ 29 ∷ 19 ∷ []) ca (extensions_of usage ca uris)
ca_held None None [] = refl
ca_held None None (uri ∷ uris) = refl
ca_held None (Some ca) [] = (constraints_text ca, refl, constraints_read ca)
ca_held None (Some ca) (uri ∷ uris) = (constraints_text ca, refl, constraints_read ca)
ca_held (Some bits) None [] = refl
ca_held (Some bits) None (uri ∷ uris) = refl
ca_held (Some bits) (Some ca) [] = (constraints_text ca, refl, constraints_read ca)
ca_held (Some bits) (Some ca) (uri ∷ uris) = (constraints_text ca, refl, constraints_read ca)

uris_held : (usage : Option KeyUsageBits) (ca : Option Bool) (uris : List (List ℕ)) → AreAscii uris
    → IsShort (names_part uris)
    → Holds san_uris_of (85 ∷ 29 ∷ 17 ∷ []) (some_uris uris) (extensions_of usage ca uris)
uris_held None None [] ascii short = refl
uris_held None (Some ca) [] ascii short = refl
uris_held (Some bits) None [] ascii short = refl
uris_held (Some bits) (Some ca) [] ascii short = refl
uris_held None None (uri ∷ uris) ascii short =
    (names_text (uri ∷ uris), refl, names_read (uri ∷ uris) ascii (short_names uri uris short))
uris_held None (Some ca) (uri ∷ uris) ascii short =
    (names_text (uri ∷ uris), refl, names_read (uri ∷ uris) ascii (short_names uri uris short))
uris_held (Some bits) None (uri ∷ uris) ascii short =
    (names_text (uri ∷ uris), refl, names_read (uri ∷ uris) ascii (short_names uri uris short))
uris_held (Some bits) (Some ca) (uri ∷ uris) ascii short =
    (names_text (uri ∷ uris), refl, names_read (uri ∷ uris) ascii (short_names uri uris short))

-- what was written is read as the spec
pub reads_back : (spec : CertSpec) (text : List ℕ) → IsCertificateOf spec text → IsBytes text
    → ReadsBack spec text
reads_back spec text is all =
    let written = certificate_text spec is.time in
    let o = subst Octets is.spelled (octets_from text all) in
    let certificate = written_is spec is.time is.expiry o in
    let read = ap certificate_rule (sym (append-nil written))
    ∙ certificate_reads written [] (written_parts spec) certificate in
    let list = extensions_text spec in
    let names =
    short_right (usage_part spec.key_usage ++ constraints_part spec.ca) (names_part spec.uris)
    (short_list list (short_extensions spec is.time o)) in
    record {
      parts = written_parts spec;
      read = subst (λ (z : List ℕ). certificate_rule z ≡ Ok (written_parts spec, length z))
          (sym is.spelled) read;
      expiry = refl;
      key_usage = usage_held spec.key_usage spec.ca spec.uris;
      ca = ca_held spec.key_usage spec.ca spec.uris;
      uris = λ ascii. uris_held spec.key_usage spec.ca spec.uris ascii names;
    }

-- a written key is a key
pub key_written : (serial : ℕ) → is_key (key_text serial) ≡ true
unfolding key_at small_integer_at after_algorithm_at object_identifier_at optional_at whole_at
    tagged_at contents_at length_at length_octets
key_written serial = refl
