-- The extensions that are looked up, by their identifiers (RFC 5280 section 4.2.1).
use Rattle.std.specs.Prelude.{ℕ, List, codes}
use Rattle.spf_x509.specs.declared.extension.X509ExtensionId.{X509ExtensionId}
use Rattle.spf_x509.specs.declared.extension.X509ExtensionId.TheVariants.{KeyUsage}
use Rattle.spf_x509.specs.declared.extension.X509ExtensionId.TheVariants.{SubjectAlternativeName}
use Rattle.spf_x509.specs.declared.extension.X509ExtensionId.TheVariants.{BasicConstraints}

-- the identifier in dotted decimals
abbrev pub dotted : X509ExtensionId → List ℕ
dotted KeyUsage = codes "2.5.29.15"
dotted SubjectAlternativeName = codes "2.5.29.17"
dotted BasicConstraints = codes "2.5.29.19"
