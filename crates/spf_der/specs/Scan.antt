-- What is found of the three extensions that the rules of an SVID look up (RFC 5280 section 4.2.1).
use Rattle.std.specs.Prelude.{◌≡◌, ℕ, List, [], ◌∷◌, Option, None, Some, Result, Ok, Err, ◌&&◌}
use Rattle.std.specs.Prelude.{◌==◌, if◌then◌else◌}
use Rattle.std.specs.Str.{bytes_eq}
use Rattle.spf_der.specs.Identifier.{basic_constraints_identifier, key_usage_identifier}
use Rattle.spf_der.specs.Identifier.{subject_alt_name_identifier}
use Rattle.spf_der.specs.Read.{extensions_rule, unique_rule}
use Rattle.spf_der.specs.declared.certificate.ExtensionPart.{ExtensionPart}
use Rattle.spf_der.specs.declared.error.CertReadError.{CertReadError}
use Rattle.spf_der.specs.declared.error.X509ParseKind.{X509ParseKind}
use Rattle.spf_der.specs.declared.error.X509ParseKind.TheVariants.{DuplicateExtensions}
use Rattle.spf_der.specs.declared.scan.Extensions.{Extensions}
use Rattle.spf_der.specs.declared.scan.Found.{Found}
use Rattle.spf_der.specs.declared.scan.Found.TheVariants.{Missing, Once, Twice}

-- the last arc of an identifier 2.5.29.N
abbrev pub last_arc_of : List ℕ → Option ℕ
last_arc_of (a ∷ b ∷ arc ∷ []) = if a == 85 && b == 29 then Some arc else None
last_arc_of _ = None

-- what was found, as the look-up of one extension returns it
abbrev pub found_of : Found → Result (Option (List ℕ)) X509ParseKind
found_of Missing = Ok None
found_of (Once contents) = Ok (Some contents.now)
found_of Twice = Err DuplicateExtensions

-- one more is found
abbrev pub found_after : Result (Option (List ℕ)) X509ParseKind → List ℕ
    → Result (Option (List ℕ)) X509ParseKind
found_after (Ok None) contents = Ok (Some contents)
found_after _ contents = Err DuplicateExtensions

-- an extension is one more of that identifier, or none
abbrev pub found_next : List ℕ → Result (Option (List ℕ)) X509ParseKind → ExtensionPart
    → Result (Option (List ℕ)) X509ParseKind
found_next oid found extension =
    if bytes_eq extension.oid oid then found_after found extension.contents else found

-- what is found after one more extension
pub record FoundWith (new old : Extensions) (extension : ExtensionPart) : Type 0 where
  pub key_usage : found_of new.key_usage
      ≡ found_next key_usage_identifier (found_of old.key_usage) extension
  pub subject_alt_name : found_of new.subject_alt_name
      ≡ found_next subject_alt_name_identifier (found_of old.subject_alt_name) extension
  pub basic_constraints : found_of new.basic_constraints
      ≡ found_next basic_constraints_identifier (found_of old.basic_constraints) extension

-- what is found is what each look-up returns
pub record HasFound (found : Extensions) (extensions : List ExtensionPart) : Type 0 where
  pub key_usage : found_of found.key_usage ≡ unique_rule key_usage_identifier extensions
  pub subject_alt_name : found_of found.subject_alt_name
      ≡ unique_rule subject_alt_name_identifier extensions
  pub basic_constraints : found_of found.basic_constraints
      ≡ unique_rule basic_constraints_identifier extensions

-- the extensions whose concatenation the text is, and none where it is not one
abbrev pub read_extensions : Result (List ExtensionPart) CertReadError → List ExtensionPart
read_extensions (Ok extensions) = extensions
read_extensions (Err e) = []

abbrev pub extensions_in : List ℕ → List ExtensionPart
extensions_in text = read_extensions (extensions_rule text)

-- what a walk over extensions returns
abbrev pub IsScanned : Result Extensions CertReadError → Result (List ExtensionPart) CertReadError
    → Type 0
IsScanned (Ok found) rule =
    (extensions : List ExtensionPart) × (rule ≡ Ok extensions) × HasFound found extensions
IsScanned (Err e) rule = rule ≡ Err e
