-- How an error of one layer reads in the layer above: out of memory stays out of memory.
use Rattle.std.specs.Prelude.{Bool, true, false}
use Rattle.spf_id.specs.declared.error.SpiffeIdError.{SpiffeIdError}
use Rattle.spf_id.specs.declared.error.SpiffeIdError.TheVariants as id
use Rattle.spf_der.specs.declared.error.CertReadError.{CertReadError}
use Rattle.spf_der.specs.declared.error.CertReadError.TheVariants as read
use Rattle.spf_x509.specs.declared.error.CertificateError.{CertificateError}
use Rattle.spf_x509.specs.declared.error.CertificateError.TheVariants as cert
use Rattle.spf_x509.specs.declared.error.PrivateKeyError.{PrivateKeyError}
use Rattle.spf_x509.specs.declared.error.PrivateKeyError.TheVariants as key
use Rattle.spf_x509.specs.declared.error.X509BundleError.{X509BundleError}
use Rattle.spf_x509.specs.declared.error.X509BundleError.TheVariants as bundle
use Rattle.spf_x509.specs.declared.svid_error.X509SvidError.{X509SvidError}
use Rattle.spf_x509.specs.declared.svid_error.X509SvidError.TheVariants as svid

-- whether an error says that memory ran out
abbrev pub is_memory_certificate : CertificateError → Bool
is_memory_certificate cert.OutOfMemory = true
is_memory_certificate _ = false

abbrev pub is_memory_key : PrivateKeyError → Bool
is_memory_key key.OutOfMemory = true
is_memory_key _ = false

abbrev pub is_memory_bundle : X509BundleError → Bool
is_memory_bundle bundle.OutOfMemory = true
is_memory_bundle _ = false

abbrev pub is_memory_svid : X509SvidError → Bool
is_memory_svid svid.OutOfMemory = true
is_memory_svid _ = false

abbrev pub of_read : CertReadError → CertificateError
of_read (read.Parse e) = cert.ParseX509Certificate e
of_read read.OutOfMemory = cert.OutOfMemory

abbrev pub of_id : SpiffeIdError → CertificateError
of_id id.OutOfMemory = cert.OutOfMemory
of_id e = cert.InvalidSpiffeId e

abbrev pub bundle_of_certificate : CertificateError → X509BundleError
bundle_of_certificate cert.OutOfMemory = bundle.OutOfMemory
bundle_of_certificate e = bundle.Certificate e

abbrev pub svid_of_certificate : CertificateError → X509SvidError
svid_of_certificate cert.OutOfMemory = svid.OutOfMemory
svid_of_certificate e = svid.Certificate e

abbrev pub svid_of_key : PrivateKeyError → X509SvidError
svid_of_key key.OutOfMemory = svid.OutOfMemory
svid_of_key e = svid.PrivateKey e
