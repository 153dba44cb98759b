-- The texts that are written (RFC 5280 section 4.1, RFC 5958
-- section 2): names, public keys and signatures are empty.
use Rattle.std.specs.Prelude.{◌≡◌, ℕ, ◌+◌, List, [], ◌∷◌, ◌++◌, flat_map, Option, Some, None, Bool}
use Rattle.std.specs.Prelude.{if◌then◌else◌, codes}
use Rattle.spf_der.specs.Identifier.{basic_constraints_identifier, key_usage_identifier}
use Rattle.spf_der.specs.Identifier.{subject_alt_name_identifier}
use Rattle.spf_der.specs.Value.{value_text, context_constructed}
use Rattle.spf_der.specs.WrittenTime.{IsTimeText}
use Rattle.spf_der.specs.declared.extensions.KeyUsageBits.{KeyUsageBits}
use Rattle.spf_der.specs.declared.writer.CertSpec.{CertSpec}
use Rattle.spf_der.specs.declared.value.TheConstants.{BIT_STRING, BOOLEAN, INTEGER}
use Rattle.spf_der.specs.declared.value.TheConstants.{OBJECT_IDENTIFIER, OCTET_STRING, SEQUENCE}
use Rattle.spf_der.specs.declared.value.TheConstants.{UTC_TIME}

-- an AlgorithmIdentifier of 1.3.101.112 (RFC 8410 section 3)
abbrev pub algorithm_text : List ℕ
algorithm_text = value_text SEQUENCE (value_text OBJECT_IDENTIFIER (43 ∷ 101 ∷ 112 ∷ []))

-- a BIT STRING of no bits
abbrev pub no_bits : List ℕ
no_bits = value_text BIT_STRING (0 ∷ [])

-- an empty Name
abbrev pub no_name : List ℕ
no_name = value_text SEQUENCE []

-- the octet of a key usage that holds all its bits
abbrev pub usage_octet : KeyUsageBits → ℕ
usage_octet bits =
    (if bits.digital_signature then 128 else 0) + (if bits.key_cert_sign then 4 else 0)
    + (if bits.crl_sign then 2 else 0)

-- the contents octets of a key usage, which ends with its last bit that is set
abbrev pub usage_octets : KeyUsageBits → List ℕ
usage_octets bits =
    if bits.crl_sign then 1 ∷ usage_octet bits ∷ []
    else (if bits.key_cert_sign then 2 ∷ usage_octet bits ∷ []
    else (if bits.digital_signature then 7 ∷ usage_octet bits ∷ []
    else 0 ∷ []))

abbrev pub usage_text : KeyUsageBits → List ℕ
usage_text bits = value_text BIT_STRING (usage_octets bits)

abbrev pub constraints_text : Bool → List ℕ
constraints_text ca = value_text SEQUENCE (if ca then value_text BOOLEAN (255 ∷ []) else [])

abbrev pub names_text : List (List ℕ) → List ℕ
names_text uris = value_text SEQUENCE (flat_map (value_text 134) uris)

-- an Extension without a BOOLEAN
abbrev pub extension_text : List ℕ → List ℕ → List ℕ
extension_text oid contents =
    value_text SEQUENCE (value_text OBJECT_IDENTIFIER oid ++ value_text OCTET_STRING contents)

abbrev pub usage_part : Option KeyUsageBits → List ℕ
usage_part None = []
usage_part (Some bits) = extension_text key_usage_identifier (usage_text bits)

abbrev pub constraints_part : Option Bool → List ℕ
constraints_part None = []
constraints_part (Some ca) = extension_text basic_constraints_identifier (constraints_text ca)

abbrev pub names_part : List (List ℕ) → List ℕ
names_part [] = []
names_part (uri ∷ uris) = extension_text subject_alt_name_identifier (names_text (uri ∷ uris))

-- the text of the extensions
abbrev pub extensions_text : CertSpec → List ℕ
extensions_text spec = usage_part spec.key_usage ++ constraints_part spec.ca ++ names_part spec.uris

-- a version of 2 exactly where there are extensions
abbrev pub version_text : List ℕ → List ℕ
version_text [] = []
version_text (x ∷ extensions) = value_text (context_constructed 0) (value_text INTEGER (2 ∷ []))

abbrev pub extensions_part : List ℕ → List ℕ
extensions_part [] = []
extensions_part (x ∷ extensions) =
    value_text (context_constructed 3) (value_text SEQUENCE (x ∷ extensions))

-- from the first second of 1970 to that time
abbrev pub validity_text : List ℕ → List ℕ
validity_text time = value_text SEQUENCE (value_text UTC_TIME (codes "700101000000Z") ++ time)

abbrev pub public_key_text : List ℕ
public_key_text = value_text SEQUENCE (algorithm_text ++ no_bits)

-- the contents of tbsCertificate, with that text of the expiry
abbrev pub tbs_text : CertSpec → List ℕ → List ℕ
tbs_text spec time =
    version_text (extensions_text spec) ++ value_text INTEGER (spec.serial ∷ []) ++ algorithm_text
    ++ no_name
    ++ validity_text time ++ no_name ++ public_key_text ++ extensions_part (extensions_text spec)

-- the certificate, with that text of the expiry
abbrev pub certificate_text : CertSpec → List ℕ → List ℕ
certificate_text spec time =
    value_text SEQUENCE (value_text SEQUENCE (tbs_text spec time) ++ algorithm_text ++ no_bits)

-- the certificate of the spec
pub record IsCertificateOf (spec : CertSpec) (text : List ℕ) : Type 0 where
  pub time : List ℕ
  pub expiry : IsTimeText spec.expiry time
  pub spelled : text ≡ certificate_text spec time

-- a key of one octet
abbrev pub key_text : ℕ → List ℕ
key_text serial =
    value_text SEQUENCE
    (value_text INTEGER (0 ∷ []) ++ algorithm_text ++ value_text OCTET_STRING (serial ∷ []))
