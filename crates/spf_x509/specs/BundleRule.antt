-- How a bundle comes from certificates (SPIFFE Trust Domain and Bundle section 4).
use Rattle.std.specs.Prelude.{◌≡◌, ℕ, List, [], ◌∷◌, ◌++◌, Result, Ok, Some}
use Rattle.spf_io.specs.Rule.{◌>>=◌, broken_as}
use Rattle.spf_x509.specs.declared.error.CertificateError.{CertificateError}
use Rattle.spf_x509.specs.declared.error.X509BundleError.{X509BundleError}
use Rattle.spf_x509.specs.Errors.{bundle_of_certificate}
use Rattle.spf_x509.specs.Bundle.{Bundle, find_entry, with_entry}
use Rattle.spf_x509.specs.Chain.{authorities_rule}

-- the bundle of a trust domain and the certificates that were read, or why they were not
abbrev pub bundle_of : List ℕ → Result (List (List ℕ)) CertificateError
    → Result Bundle X509BundleError
bundle_of domain read =
    broken_as bundle_of_certificate read
    >>= λ authorities. Ok (record { domain = domain; authorities = authorities })

-- the bundle with one more authority, or why it was not read
abbrev pub added_to : Bundle → Result (List ℕ) CertificateError → Result Bundle X509BundleError
added_to bundle read =
    broken_as bundle_of_certificate read
    >>= λ authority.
    Ok (record { domain = bundle.domain; authorities = bundle.authorities ++ authority ∷ [] })

-- the bundle of a trust domain in a set is the one that the bytes are
pub record IsIn (set : List (List ℕ × Bundle)) (domain der : List ℕ) : Type 0 where
  pub bundle : Bundle
  pub found : find_entry domain set ≡ Some bundle
  pub read : bundle_of domain (authorities_rule der) ≡ Ok bundle

-- adding the bundle of a trust domain that the bytes are changes nothing
abbrev pub ChangesNothing : List (List ℕ × Bundle) → List ℕ → List ℕ → Type 0
ChangesNothing set domain der =
    (bundle : Bundle) → bundle_of domain (authorities_rule der) ≡ Ok bundle
    → with_entry set bundle.domain bundle ≡ set
