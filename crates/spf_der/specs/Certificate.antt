-- Certificates, in the order of RFC 5280 section 4.1: what is read at the start of the bytes.
use Rattle.std.specs.Prelude.{ℕ, ℤ, List, [], ◌∷◌, length, Option, Some, None, Bool, true}
use Rattle.std.specs.Prelude.{false, ◌==◌, ◌||◌, if◌then◌else◌}
use Rattle.spf_io.specs.Option.{◌>>=◌}
use Rattle.spf_der.specs.Value.{context_primitive, context_constructed, contents_at, tagged_at}
use Rattle.spf_der.specs.Value.{whole_at, optional_at}
use Rattle.spf_der.specs.Types.{object_identifier_at, integer_at, small_integer_at}
use Rattle.spf_der.specs.Types.{default_false_at, after_bit_string_at, after_algorithm_at}
use Rattle.spf_der.specs.Time.{time_at}
use Rattle.spf_der.specs.declared.certificate.ExtensionPart.{ExtensionPart}
use Rattle.spf_der.specs.declared.value.TheConstants.{OCTET_STRING, SEQUENCE}

-- nothing stands after what was read
abbrev pub ends : {A : Type 0} → Option (A × List ℕ) → Bool
ends None = false
ends (Some v) = length v.1 == 0

-- a version that may be left out: one INTEGER of one octet, from 0 to 2 (section 4.1.2.1)
abbrev pub is_version : Option (List ℕ) → Bool
is_version None = true
is_version (Some inner) = ends (small_integer_at 2 inner)

-- what follows the version
unfoldable pub after_version_at : List ℕ → Option (List ℕ)
after_version_at bytes = do
  v ← optional_at (context_constructed 0) bytes
  if is_version v.0 then Some v.1 else None

-- the second of two times, and what follows the validity (section 4.1.2.5)
unfoldable pub validity_at : List ℕ → Option (ℤ × List ℕ)
validity_at bytes = do
  times ← tagged_at SEQUENCE bytes
  start ← time_at times.0
  expiry ← time_at start.1
  if length expiry.1 == 0 then Some (expiry.0, times.1) else None

-- what follows a public key: an algorithm and a BIT STRING (section 4.1.2.7)
unfoldable pub after_public_key_at : List ℕ → Option (List ℕ)
after_public_key_at bytes = do
  whole ← tagged_at SEQUENCE bytes
  key ← after_algorithm_at whole.0
  end ← after_bit_string_at key
  if length end == 0 then Some whole.1 else None

-- what follows a unique identifier of that number, primitive
-- or constructed, which may be left out (section 4.1.2.8)
unfoldable pub after_unique_id_at : ℕ → List ℕ → Option (List ℕ)
after_unique_id_at number [] = Some []
after_unique_id_at number (tag ∷ bytes) =
    if tag == context_primitive number || tag == context_constructed number then (do
      v ← contents_at bytes
      Some v.1)
    else Some (tag ∷ bytes)

-- the text of the extensions that end the bytes, which
-- is empty where they are left out (section 4.1.2.9)
abbrev pub extension_text_of : Option (List ℕ) → Option (List ℕ)
extension_text_of None = Some []
extension_text_of (Some inner) = whole_at SEQUENCE inner

unfoldable pub extension_text_at : List ℕ → Option (List ℕ)
extension_text_at bytes = do
  v ← optional_at (context_constructed 3) bytes
  if length v.1 == 0 then extension_text_of v.0 else None

-- what stands before the validity of tbsCertificate: version,
-- serial number, signature, issuer (sections 4.1.2.1 to 4.1.2.4)
unfoldable pub after_issuer_at : List ℕ → Option (List ℕ)
after_issuer_at bytes = do
  serial ← after_version_at bytes
  signature ← integer_at serial
  issuer ← after_algorithm_at signature.1
  validity ← tagged_at SEQUENCE issuer
  Some validity.1

-- the text of the extensions, after the validity (sections 4.1.2.6 to 4.1.2.9)
unfoldable pub text_after_validity_at : List ℕ → Option (List ℕ)
text_after_validity_at bytes = do
  key ← tagged_at SEQUENCE bytes
  issuer_id ← after_public_key_at key.1
  subject_id ← after_unique_id_at 1 issuer_id
  extensions ← after_unique_id_at 2 subject_id
  extension_text_at extensions

-- the expiry and the text of the extensions of the
-- tbsCertificate that the bytes are (section 4.1.2)
unfoldable pub tbs_of : List ℕ → Option (ℤ × List ℕ)
tbs_of bytes = do
  validity ← after_issuer_at bytes
  subject ← validity_at validity
  key ← tagged_at SEQUENCE subject.1
  issuer_id ← after_public_key_at key.1
  subject_id ← after_unique_id_at 1 issuer_id
  extensions ← after_unique_id_at 2 subject_id
  text ← extension_text_at extensions
  Some (subject.0, text)

-- the expiry and the text of the extensions of the certificate
-- at the start, and what follows it (section 4.1.1)
unfoldable pub certificate_at : List ℕ → Option (ℤ × List ℕ × List ℕ)
certificate_at bytes = do
  whole ← tagged_at SEQUENCE bytes
  tbs ← tagged_at SEQUENCE whole.0
  kept ← tbs_of tbs.0
  signature ← after_algorithm_at tbs.1
  end ← after_bit_string_at signature
  if length end == 0 then Some (kept.0, kept.1, whole.1) else None

-- the extension at the start, and what follows it (section 4.2)
unfoldable pub extension_at : List ℕ → Option (ExtensionPart × List ℕ)
extension_at bytes = do
  whole ← tagged_at SEQUENCE bytes
  oid ← object_identifier_at whole.0
  critical ← default_false_at oid.1
  contents ← whole_at OCTET_STRING critical.1
  Some (record { oid = oid.0; contents = contents }, whole.1)
