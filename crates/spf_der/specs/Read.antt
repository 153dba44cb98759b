-- What is read of a certificate, or why none is.
use Rattle.std.specs.Prelude.{ℕ, ◌+◌, ◌-◌, List, [], ◌∷◌, length, Bool, false, Option, Some, None}
use Rattle.std.specs.Prelude.{Result, Ok, Err, if◌then◌else◌}
use Rattle.std.specs.Str.{bytes_eq}
use Rattle.spf_io.specs.Rule.{◌>>=◌, many}
use Rattle.spf_der.specs.Certificate.{certificate_at, extension_at}
use Rattle.spf_der.specs.Part.{Parts}
use Rattle.spf_der.specs.Error.{here}
use Rattle.spf_der.specs.declared.certificate.ExtensionPart.{ExtensionPart}
use Rattle.spf_der.specs.declared.error.CertReadError.{CertReadError}
use Rattle.spf_der.specs.declared.error.CertReadError.TheVariants.{Parse}
use Rattle.spf_der.specs.declared.error.X509ParseKind.{X509ParseKind}
use Rattle.spf_der.specs.declared.error.X509ParseKind.TheVariants.{InvalidCertificate}
use Rattle.spf_der.specs.declared.error.X509ParseKind.TheVariants.{DuplicateExtensions}

-- the extension at the start, and what follows it
abbrev pub part_at : List ℕ → Result (ExtensionPart × List ℕ) CertReadError
part_at bytes = here (extension_at bytes)

-- the extensions whose concatenation the text is
abbrev pub extensions_rule : List ℕ → Result (List ExtensionPart) CertReadError
extensions_rule text = many part_at (Parse InvalidCertificate) (length text) text

-- the certificate at the start of the bytes, and its length
unfoldable pub certificate_rule : List ℕ → Result (Parts × ℕ) CertReadError
certificate_rule der = do
  kept ← here (certificate_at der)
  extensions ← extensions_rule kept.1
  Ok (record { expiry = kept.0; extensions = extensions }, length der - length kept.2)

-- at most one
abbrev pub only_one : {A : Type 0} → List A → Result (Option A) X509ParseKind
only_one [] = Ok None
only_one (x ∷ []) = Ok (Some x)
only_one (x ∷ y ∷ xs) = Err DuplicateExtensions

-- the contents of the extensions with that identifier
abbrev pub contents_with : List ℕ → List ExtensionPart → List (List ℕ)
contents_with oid [] = []
contents_with oid (e ∷ extensions) =
    if bytes_eq e.oid oid then e.contents ∷ contents_with oid extensions
    else contents_with oid extensions

-- their indices, counted from n
abbrev pub indices_with : List ℕ → ℕ → List ExtensionPart → List ℕ
indices_with oid n [] = []
indices_with oid n (e ∷ extensions) =
    if bytes_eq e.oid oid then n ∷ indices_with oid (n + 1) extensions
    else indices_with oid (n + 1) extensions

-- the contents of the one extension with that identifier, if there is one
abbrev pub unique_rule : List ℕ → List ExtensionPart → Result (Option (List ℕ)) X509ParseKind
unique_rule oid extensions = only_one (contents_with oid extensions)

-- its index
abbrev pub index_rule : List ℕ → List ExtensionPart → Result (Option ℕ) X509ParseKind
index_rule oid extensions = only_one (indices_with oid 0 extensions)

-- no error says that memory ran out
abbrev pub never : X509ParseKind → Bool
never _ = false
