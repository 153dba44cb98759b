-- A certificate, and the SPIFFE ID that it names (SPIFFE X.509-SVID section 2).
use Rattle.std.specs.Prelude.{ℕ, List, [], ◌∷◌, length, Option, Some, None, Result, Ok, Err, not}
use Rattle.std.specs.Prelude.{nat_lt, ◌==◌, if◌then◌else◌, codes}
use Rattle.spf_io.specs.Rule.{◌>>=◌, broken_as}
use Rattle.spf_id.specs.Id.{Id}
use Rattle.spf_id.specs.Rule.{id_rule, has_spiffe_scheme}
use Rattle.spf_der.specs.Grammar.{CertText}
use Rattle.spf_der.specs.Identifier.{basic_constraints_identifier, key_usage_identifier}
use Rattle.spf_der.specs.Identifier.{subject_alt_name_identifier}
use Rattle.spf_der.specs.Part.{Parts}
use Rattle.spf_der.specs.Read.{certificate_rule, unique_rule}
use Rattle.spf_der.specs.Names.{san_uris_of}
use Rattle.spf_der.specs.declared.error.X509ParseKind.TheVariants.{InvalidCertificate}
use Rattle.spf_x509.specs.declared.extension.X509ExtensionId.{X509ExtensionId}
use Rattle.spf_x509.specs.declared.extension.X509ExtensionId.TheVariants.{KeyUsage}
use Rattle.spf_x509.specs.declared.extension.X509ExtensionId.TheVariants.{SubjectAlternativeName}
use Rattle.spf_x509.specs.declared.extension.X509ExtensionId.TheVariants.{BasicConstraints}
use Rattle.spf_x509.specs.declared.error.CertificateError.{CertificateError}
use Rattle.spf_x509.specs.declared.error.CertificateError.TheVariants.{MissingX509Extension}
use Rattle.spf_x509.specs.declared.error.CertificateError.TheVariants.{UnexpectedExtension}
use Rattle.spf_x509.specs.declared.error.CertificateError.TheVariants.{ParseX509Certificate}
use Rattle.spf_x509.specs.declared.error.CertificateError.TheVariants.{MissingSpiffeId}
use Rattle.spf_x509.specs.declared.error.CertificateError.TheVariants.{MultipleUriSanEntries}
use Rattle.spf_x509.specs.declared.error.CertificateError.TheVariants.{OversizedUriSan}
use Rattle.spf_x509.specs.Errors.{of_read, of_id}

-- the certificate that the bytes are, with nothing after it (RFC 5280 section 4.1)
unfoldable pub whole_rule : List ℕ → Result Parts CertificateError
whole_rule der = do
  read ← broken_as of_read (certificate_rule der)
  if read.1 == length der then Ok read.0 else Err (ParseX509Certificate InvalidCertificate)

-- a certificate is kept as its bytes
unfoldable pub certificate_of : List ℕ → Result (List ℕ) CertificateError
certificate_of der = whole_rule der >>= λ _. Ok der

-- bytes that are one certificate
abbrev pub IsCertificate : List ℕ → Type 0
IsCertificate der = (parts : Parts) × CertText der parts

-- the contents octets of 2.5.29.15, 2.5.29.17 and 2.5.29.19 (RFC 5280 section 4.2.1)
abbrev pub oid_of : X509ExtensionId → List ℕ
oid_of KeyUsage = key_usage_identifier
oid_of SubjectAlternativeName = subject_alt_name_identifier
oid_of BasicConstraints = basic_constraints_identifier

-- an extension that has to be there
abbrev pub present : X509ExtensionId → Option (List ℕ) → Result (List ℕ) CertificateError
present extension None = Err (MissingX509Extension extension)
present extension (Some contents) = Ok contents

-- the contents of the one extension with an identifier
unfoldable pub extension_rule : List ℕ → X509ExtensionId → Parts → Result (List ℕ) CertificateError
extension_rule oid extension parts = do
  found ← broken_as ParseX509Certificate (unique_rule oid parts.extensions)
  present extension found

-- the ID that a URI is, where it has the scheme `spiffe:`
unfoldable pub uri_rule : List ℕ → Result (Option Id) CertificateError
uri_rule uri =
    if nat_lt 2048 (length uri) then Err (OversizedUriSan 2048)
    else (if not (has_spiffe_scheme uri) then Ok None
    else (broken_as of_id (id_rule uri) >>= λ id. Ok (Some id)))

-- an ID that has to be there
abbrev pub found_id : Option Id → Result Id CertificateError
found_id None = Err MissingSpiffeId
found_id (Some id) = Ok id

-- the one ID of the URIs: there is one URI, which is an ID
abbrev pub uris_rule : List (List ℕ) → Result Id CertificateError
uris_rule [] = Err MissingSpiffeId
uris_rule (uri ∷ []) = uri_rule uri >>= found_id
uris_rule (uri ∷ second ∷ uris) = uri_rule uri >>= λ _. Err MultipleUriSanEntries

-- names that have to be readable
abbrev pub readable_names : Option (List (List ℕ)) → Result (List (List ℕ)) CertificateError
readable_names None = Err (UnexpectedExtension (codes "SubjectAlternativeName"))
readable_names (Some uris) = Ok uris

-- the one ID of a subject alternative name by its contents
abbrev pub names_rule : List ℕ → Result Id CertificateError
names_rule contents = do
  uris ← readable_names (san_uris_of contents)
  uris_rule uris

-- SanRule: the one SPIFFE ID of the subject alternative
-- name (RFC 5280 section 4.2.1.6), or the first broken rule
unfoldable pub san_rule : Parts → Result Id CertificateError
san_rule parts = do
  contents ← extension_rule (oid_of SubjectAlternativeName) SubjectAlternativeName parts
  names_rule contents

-- the one SPIFFE ID of the certificate that the bytes are
unfoldable pub spiffe_id_rule : List ℕ → Result Id CertificateError
spiffe_id_rule der = whole_rule der >>= san_rule
