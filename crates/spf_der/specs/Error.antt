-- Which errors say that memory ran out, and the name of a kind.
use Rattle.std.specs.Prelude.{List, ℕ, codes, Bool, true, false, Option, Some, None, Result, Ok}
use Rattle.std.specs.Prelude.{Err}
use Rattle.spf_der.specs.declared.error.CertReadError.{CertReadError}
use Rattle.spf_der.specs.declared.error.CertReadError.TheVariants.{Parse, OutOfMemory}
use Rattle.spf_der.specs.declared.error.X509ParseKind.{X509ParseKind}
use Rattle.spf_der.specs.declared.error.X509ParseKind.TheVariants.{InvalidCertificate}
use Rattle.spf_der.specs.declared.error.X509ParseKind.TheVariants.{DuplicateExtensions}

abbrev pub is_memory : CertReadError → Bool
is_memory OutOfMemory = true
is_memory _ = false

-- the value that was read, or the error that there is no certificate
abbrev pub here : {A : Type 0} → Option A → Result A CertReadError
here None = Err (Parse InvalidCertificate)
here (Some x) = Ok x

abbrev pub name_of_kind : X509ParseKind → List ℕ
name_of_kind InvalidCertificate = codes "InvalidCertificate"
name_of_kind DuplicateExtensions = codes "DuplicateExtensions"
