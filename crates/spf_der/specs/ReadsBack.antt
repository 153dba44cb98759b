-- What is read of a certificate that was written (RFC 5280
-- sections 4.1 and 4.2.1): the spec, the serial number apart.
use Rattle.std.specs.Prelude.{◌≡◌, ℕ, List, [], ◌∷◌, length, Option, Some, None, Ok, true, nat_lt}
use Rattle.std.specs.List.{list_all}
use Rattle.spf_der.specs.Identifier.{basic_constraints_identifier, key_usage_identifier}
use Rattle.spf_der.specs.Identifier.{subject_alt_name_identifier}
use Rattle.spf_der.specs.Part.{Parts}
use Rattle.spf_der.specs.Read.{certificate_rule, unique_rule}
use Rattle.spf_der.specs.Extensions.{key_usage_of, basic_constraints_of}
use Rattle.spf_der.specs.Names.{san_uris_of}
use Rattle.spf_der.specs.declared.certificate.ExtensionPart.{ExtensionPart}
use Rattle.spf_der.specs.declared.writer.CertSpec.{CertSpec}

-- there is one extension with that identifier exactly
-- where there is a value, and it is read as that value
abbrev pub Holds : {A : Type 0} → (List ℕ → Option A) → List ℕ → Option A → List ExtensionPart
    → Type 0
Holds read oid None extensions = unique_rule oid extensions ≡ Ok None
Holds read oid (Some x) extensions =
    (contents : List ℕ) × (unique_rule oid extensions ≡ Ok (Some contents))
    × (read contents ≡ Some x)

-- URIs, where there are any
abbrev pub some_uris : List (List ℕ) → Option (List (List ℕ))
some_uris [] = None
some_uris (uri ∷ uris) = Some (uri ∷ uris)

-- octets that are all below 128
abbrev pub AreAscii : List (List ℕ) → Type 0
AreAscii uris = list_all (λ uri. list_all (λ b. nat_lt b 128) uri) uris ≡ true

-- the whole text is read, with the expiry, the key usage, the CA flag and the URIs of the spec
pub record ReadsBack (spec : CertSpec) (text : List ℕ) : Type 0 where
  pub parts : Parts
  pub read : certificate_rule text ≡ Ok (parts, length text)
  pub expiry : parts.expiry ≡ spec.expiry
  pub key_usage : Holds key_usage_of key_usage_identifier spec.key_usage parts.extensions
  pub ca : Holds basic_constraints_of basic_constraints_identifier spec.ca parts.extensions
  pub uris : AreAscii spec.uris
      → Holds san_uris_of subject_alt_name_identifier (some_uris spec.uris) parts.extensions
