-- The rules of the certificates of an SVID (SPIFFE X.509-SVID sections 4 and 5).
use Rattle.std.specs.Prelude.{ℕ, ℤ, List, length, Option, Some, None, Result, Ok, Err, Bool, not}
use Rattle.std.specs.Prelude.{◌==◌, if◌then◌else◌, codes}
use Rattle.spf_io.specs.Rule.{◌>>=◌, broken_as}
use Rattle.spf_id.specs.Id.{Id}
use Rattle.spf_der.specs.Part.{Parts}
use Rattle.spf_der.specs.Extensions.{key_usage_of, basic_constraints_of}
use Rattle.spf_der.specs.declared.extensions.KeyUsageBits.{KeyUsageBits}
use Rattle.spf_x509.specs.declared.extension.X509ExtensionId.TheVariants.{KeyUsage}
use Rattle.spf_x509.specs.declared.extension.X509ExtensionId.TheVariants.{BasicConstraints}
use Rattle.spf_x509.specs.declared.svid_error.X509SvidError.{X509SvidError}
use Rattle.spf_x509.specs.declared.svid_error.X509SvidError.TheVariants as errors
use Rattle.spf_x509.specs.Errors.{svid_of_certificate}
use Rattle.spf_x509.specs.Certificate.{oid_of, extension_rule, san_rule}

-- what is read of an extension of that name
abbrev pub readable : {A : Type 0} → List ℕ → Option A → Result A X509SvidError
readable name None = Err (errors.UnparseableExtension name)
readable name (Some x) = Ok x

-- the key usage of a certificate (RFC 5280 section 4.2.1.3)
unfoldable pub usage_rule : Parts → Result KeyUsageBits X509SvidError
usage_rule parts = do
  contents ← broken_as svid_of_certificate (extension_rule (oid_of KeyUsage) KeyUsage parts)
  readable (codes "KeyUsage") (key_usage_of contents)

-- the CA flag of a certificate (RFC 5280 section 4.2.1.9)
unfoldable pub ca_rule : Parts → Result Bool X509SvidError
ca_rule parts = do
  contents ← broken_as svid_of_certificate
      (extension_rule (oid_of BasicConstraints) BasicConstraints parts)
  readable (codes "BasicConstraints") (basic_constraints_of contents)

-- a rule, and what is wrong where it is broken
abbrev pub must : Bool → X509SvidError → Result (Unit {0}) X509SvidError
must kept e = if kept then Ok tt else Err e

-- a leaf signs, and signs neither CRLs nor certificates
abbrev pub leaf_usage : KeyUsageBits → Result (Unit {0}) X509SvidError
leaf_usage usage = do
  _ ← must usage.digital_signature errors.LeafCertificateMissingDigitalSignature
  _ ← must (not usage.crl_sign) errors.LeafCertificateHasCrlSign
  must (not usage.key_cert_sign) errors.LeafCertificateHasKeyCertSign

-- LeafRule: the ID and the expiry of a leaf, or the first broken rule
unfoldable pub leaf_rule : Parts → Result (Id × ℤ) X509SvidError
leaf_rule parts = do
  usage ← usage_rule parts
  _ ← leaf_usage usage
  ca ← ca_rule parts
  _ ← must (not ca) errors.LeafCertificateHasCaFlag
  id ← broken_as svid_of_certificate (san_rule parts)
  _ ← must (not (length id.path == 0)) errors.LeafSpiffeIdMissingPath
  Ok (id, parts.expiry)

-- SignRule: an intermediate may sign certificates
unfoldable pub intermediate_rule : Parts → Result (Unit {0}) X509SvidError
intermediate_rule parts = do
  ca ← ca_rule parts
  _ ← must ca errors.SigningCertificateMissingCaFlag
  usage ← usage_rule parts
  must usage.key_cert_sign errors.SigningCertificateMissingKeyCertSign
