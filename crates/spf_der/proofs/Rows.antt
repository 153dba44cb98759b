-- The grammar and the rules at named texts.
use Rattle.std.proofs.Common.{◌≡◌, ℕ, ◌+◌, ◌-◌, ◌*◌, ◌<◌, true, false, List, [], ◌∷◌, take, Some}
use Rattle.std.proofs.Common.{None, Ok, Err, nat_lt, nat_le, cond, refl, ap, arith, ℤ, pos, negsuc}
use Rattle.std.specs.Prelude.{codes, ◌+ℤ◌, ◌*ℤ◌}
use Rattle.std.specs.List.{list_all, AllByRecursion}
use Rattle.std.proofs.lemmas.Bool.{ltb-true}
use Rattle.std.proofs.lemmas.List.Elements.{All-from_recursion}
use Rattle.jiff_core.specs.Calendar.{days_from_civil}
use Rattle.jiff_core.proofs.CalendarLemmas.{days_from_civil-day_count}
use Rattle.jiff_core.proofs.MarchLemmas.{day_count-early}
use Rattle.jiff_core.proofs.SignedLemmas.{signed_arith}
use Rattle.spf_der.specs.Value.{IsBytes, length_at, long_length_at, contents_at, value_at}
use Rattle.spf_der.specs.Value.{tagged_at, whole_at, optional_at}
use Rattle.spf_der.specs.Types.{object_identifier_at, integer_at, small_integer_at}
use Rattle.spf_der.specs.Types.{default_false_at, after_bit_string_at, after_algorithm_at}
use Rattle.spf_der.specs.Time.{time_at, utc_time, generalized_time, clock_of, moment_of}
use Rattle.spf_der.specs.Time.{day_number_of}
use Rattle.spf_der.specs.Certificate.{after_version_at, validity_at, after_public_key_at}
use Rattle.spf_der.specs.Certificate.{after_unique_id_at, extension_text_at, after_issuer_at}
use Rattle.spf_der.specs.Certificate.{tbs_of, certificate_at, extension_at}
use Rattle.spf_der.specs.Part.{Parts}
use Rattle.spf_der.specs.Read.{certificate_rule}
use Rattle.spf_der.specs.Key.{key_at, is_key}
use Rattle.spf_der.specs.Extensions.{key_usage_of, basic_constraints_of}
use Rattle.spf_der.specs.Grammar.{CertText}
use Rattle.spf_der.specs.declared.error.CertReadError.TheVariants.{Parse}
use Rattle.spf_der.specs.declared.error.X509ParseKind.TheVariants.{InvalidCertificate}
use Rattle.spf_der.proofs.Steps.{both_true}
use Rattle.spf_der.proofs.Exact.{certificate_found, certificate_refused}
use Rattle.spf_der.proofs.WrittenTimes.{day_count-2049}
use Rattle.spf_der.proofs.WrittenTexts.{epoch}

-- the octets that hexadecimal digits spell
abbrev digit : ℕ → ℕ
digit c = cond (nat_le c 57) (c - 48) (c - 87)

abbrev unhex : List ℕ → List ℕ
unhex (a ∷ b ∷ rest) = (digit a * 16 + digit b) ∷ unhex rest
unhex _ = []

octets_tested : (bytes : List ℕ) → list_all (λ b. nat_lt b 256) bytes ≡ true
    → AllByRecursion (λ (b : ℕ). b < 256) bytes
octets_tested [] is = tt
octets_tested (b ∷ bytes) is = let tests =
    both_true (nat_lt b 256) (list_all (λ x. nat_lt x 256) bytes) is in
    (ltb-true b 256 tests.0, octets_tested bytes tests.1)

tested : (bytes : List ℕ) → list_all (λ b. nat_lt b 256) bytes ≡ true → IsBytes bytes
tested bytes is = All-from_recursion (λ (b : ℕ). b < 256) bytes (octets_tested bytes is)

-- ---- certificates

abbrev root_1 : List ℕ
root_1 = unhex
    (codes "3046303a020101300506032b65703000301e170d3730303130313030303030305a170d3730303130313030313634305a3000300a300506032b6570030100300506032b6570030100")

abbrev inter_1 : List ℕ
inter_1 = unhex
    (codes "306a305ea003020102020103300506032b65703000301e170d3730303130313030303030305a170d3730303130313030313634305a3000300a300506032b6570030100a31d301b300b0603551d0f040403020204300c0603551d13040530030101ff300506032b6570030100")

abbrev leaf_1 : List ℕ
leaf_1 = unhex
    (codes "30818a307ea003020102020101300506032b65703000301e170d3730303130313030303030305a170d3730303130313030313634305a3000300a300506032b6570030100a33d303b300b0603551d0f04040302078030090603551d130402300030210603551d11041a301886167370696666653a2f2f6578616d706c652e6f72672f77300506032b6570030100")

abbrev root_parts : Parts
root_parts = record { expiry = pos 1000; extensions = [] }

abbrev inter_parts : Parts
inter_parts = record {
  expiry = pos 1000;
  extensions = record {
    oid = unhex (codes "551d0f");
    contents = unhex (codes "03020204");
  } ∷ record { oid = unhex (codes "551d13"); contents = unhex (codes "30030101ff") } ∷ [];
}

abbrev leaf_parts : Parts
leaf_parts = record {
  expiry = pos 1000;
  extensions = record {
    oid = unhex (codes "551d0f");
    contents = unhex (codes "03020780");
  } ∷ record { oid = unhex (codes "551d13"); contents = unhex (codes "3000") }
      ∷ record {
        oid = unhex (codes "551d11");
        contents = unhex (codes "301886167370696666653a2f2f6578616d706c652e6f72672f77");
      } ∷ [];
}

-- 1970-01-01T00:16:40Z
expires : {A : Type 0} (f : ℤ → A)
    → f ((days_from_civil (pos 1970) 1 1 *ℤ pos 86400) +ℤ pos 1000) ≡ f (pos 1000)
expires {A} f = ap (λ (z : ℤ). f ((z *ℤ pos 86400) +ℤ pos 1000)) epoch

root_read : certificate_rule root_1 ≡ Ok (root_parts, 72)
unfolding certificate_rule certificate_at tbs_of after_issuer_at after_version_at validity_at
    after_public_key_at after_unique_id_at extension_text_at integer_at object_identifier_at
    small_integer_at after_algorithm_at after_bit_string_at time_at utc_time clock_of moment_of
    day_number_of value_at optional_at whole_at tagged_at contents_at length_at long_length_at
root_read = expires (λ z. Ok (record { expiry = z; extensions = [] }, 72))

inter_read : certificate_rule inter_1 ≡ Ok (inter_parts, 108)
unfolding certificate_rule certificate_at extension_at tbs_of after_issuer_at after_version_at
    validity_at after_public_key_at after_unique_id_at extension_text_at integer_at
    object_identifier_at small_integer_at default_false_at after_algorithm_at after_bit_string_at
    time_at utc_time clock_of moment_of day_number_of value_at optional_at whole_at tagged_at
    contents_at length_at long_length_at
inter_read = expires (λ z. Ok (record { expiry = z; extensions = inter_parts.extensions }, 108))

leaf_read : certificate_rule leaf_1 ≡ Ok (leaf_parts, 141)
unfolding certificate_rule certificate_at extension_at tbs_of after_issuer_at after_version_at
    validity_at after_public_key_at after_unique_id_at extension_text_at integer_at
    object_identifier_at small_integer_at default_false_at after_algorithm_at after_bit_string_at
    time_at utc_time clock_of moment_of day_number_of value_at optional_at whole_at tagged_at
    contents_at length_at long_length_at
leaf_read = expires (λ z. Ok (record { expiry = z; extensions = leaf_parts.extensions }, 141))

root_is_text : CertText root_1 root_parts
root_is_text = ((certificate_found root_1 root_parts 72 (tested root_1 refl)).0 root_read).1

inter_is_text : CertText inter_1 inter_parts
inter_is_text = ((certificate_found inter_1 inter_parts 108 (tested inter_1 refl)).0 inter_read).1

leaf_is_text : CertText leaf_1 leaf_parts
leaf_is_text = ((certificate_found leaf_1 leaf_parts 141 (tested leaf_1 refl)).0 leaf_read).1

-- ROOT1 with an indefinite length
abbrev indefinite : List ℕ
indefinite =
    unhex (codes
    "3080303a020101300506032b65703000301e170d3730303130313030303030305a170d3730303130313030313634305a3000300a300506032b6570030100300506032b6570030100")

indefinite_refused : certificate_rule indefinite ≡ Err (Parse InvalidCertificate)
unfolding certificate_rule certificate_at tagged_at contents_at length_at long_length_at
indefinite_refused = refl

indefinite_is_none : (n : ℕ) (parts : Parts) → CertText (take n indefinite) parts → ⊥
indefinite_is_none = (certificate_refused indefinite (tested indefinite refl)).0 indefinite_refused

-- ---- lengths

shortest : length_at (unhex (codes "8180")) ≡ Some (128, [])
unfolding length_at long_length_at
shortest = refl

long_form_of_127 : length_at (unhex (codes "817f")) ≡ None
unfolding length_at long_length_at
long_form_of_127 = refl

two_octets_of_255 : length_at (unhex (codes "8200ff")) ≡ None
unfolding length_at long_length_at
two_octets_of_255 = refl

no_octets : length_at (unhex (codes "80")) ≡ None
unfolding length_at long_length_at
no_octets = refl

five_octets : length_at (unhex (codes "850100000000")) ≡ None
unfolding length_at long_length_at
five_octets = refl

high_tag : value_at (unhex (codes "1f0100")) ≡ None
unfolding value_at
high_tag = refl

-- ---- times

in_1950 : days_from_civil (pos 1950) 1 1 ≡ negsuc 7304
in_1950 = omega (
  arith,
  signed_arith,
  days_from_civil-day_count (pos 1950) 1 1,
  day_count-early (pos 1950) 11949 1 1 refl (omega arith) (omega arith) (omega arith),
)

in_2049 : days_from_civil (pos 2049) 12 31 ≡ pos 29219
in_2049 = omega (arith, signed_arith, days_from_civil-day_count (pos 2049) 12 31, day_count-2049)

year_50 : utc_time (codes "500101000000Z") ≡ Some (negsuc 631151999)
unfolding utc_time clock_of moment_of day_number_of
year_50 = ap (λ (z : ℤ). Some ((z *ℤ pos 86400) +ℤ pos 0)) in_1950

year_49 : utc_time (codes "491231235959Z") ≡ Some (pos 2524607999)
unfolding utc_time clock_of moment_of day_number_of
year_49 = ap (λ (z : ℤ). Some ((z *ℤ pos 86400) +ℤ pos 86399)) in_2049

four_digits : generalized_time (codes "20491231235959Z") ≡ Some (pos 2524607999)
unfolding generalized_time clock_of moment_of day_number_of
four_digits = ap (λ (z : ℤ). Some ((z *ℤ pos 86400) +ℤ pos 86399)) in_2049

february_30 : utc_time (codes "700230001640Z") ≡ None
unfolding utc_time clock_of moment_of day_number_of
february_30 = refl

second_60 : utc_time (codes "700101001660Z") ≡ None
unfolding utc_time clock_of moment_of day_number_of
second_60 = refl

-- ---- keys

key_1 : is_key (unhex (codes "300d020100300506032b6570040101")) ≡ true
unfolding key_at small_integer_at after_algorithm_at object_identifier_at optional_at whole_at
    tagged_at contents_at length_at
key_1 = refl

key_without_public_key : is_key (unhex (codes "300d020101300506032b6570040101")) ≡ false
unfolding key_at small_integer_at after_algorithm_at object_identifier_at optional_at whole_at
    tagged_at contents_at length_at
key_without_public_key = refl

key_of_version_2 : is_key (unhex (codes "300d020102300506032b6570040101")) ≡ false
unfolding key_at small_integer_at after_algorithm_at object_identifier_at optional_at whole_at
    tagged_at contents_at length_at
key_of_version_2 = refl

key_and_more : is_key (unhex (codes "300d020100300506032b657004010100")) ≡ false
unfolding key_at small_integer_at after_algorithm_at object_identifier_at optional_at whole_at
    tagged_at contents_at length_at
key_and_more = refl

public_key : is_key (unhex (codes "3011020101300506032b657004010181020041")) ≡ true
unfolding key_at small_integer_at after_algorithm_at object_identifier_at optional_at whole_at
    tagged_at contents_at length_at
public_key = refl

public_key_of_version_0 : is_key (unhex (codes "3011020100300506032b657004010181020041")) ≡ false
unfolding key_at small_integer_at after_algorithm_at object_identifier_at optional_at whole_at
    tagged_at contents_at length_at
public_key_of_version_0 = refl

-- ---- extensions

eight_unused_bits : key_usage_of (unhex (codes "03020880")) ≡ None
unfolding key_usage_of whole_at tagged_at contents_at length_at
eight_unused_bits = refl

signs_certificates : key_usage_of (unhex (codes "03020204"))
    ≡ Some (record { digital_signature = false; key_cert_sign = true; crl_sign = false })
unfolding key_usage_of whole_at tagged_at contents_at length_at
signs_certificates = refl

no_constraints : basic_constraints_of (unhex (codes "0500")) ≡ None
unfolding basic_constraints_of whole_at tagged_at
no_constraints = refl
