-- What is kept of a certificate.
use Rattle.std.specs.Prelude.{List, ℤ}
use Rattle.spf_der.specs.declared.certificate.ExtensionView.{ExtensionView}
use Rattle.spf_der.specs.declared.certificate.ExtensionPart.{ExtensionPart}

-- the expiry in Unix seconds, and the extensions in order
pub record Parts : Type 0 where
  pub expiry : ℤ
  pub extensions : List ExtensionPart

-- an extension without where it lies
abbrev pub plain : ExtensionView → ExtensionPart
plain v = record { oid = v.oid.now; contents = v.contents.now }
