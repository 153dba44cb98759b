use Rattle.std.proofs.Common.{List, length}
use Rattle.spf_io.proofs.Many.{Goes}
use Rattle.spf_der.specs.Read.{extensions_rule, part_at}
use Rattle.spf_der.specs.Scan.{HasFound}
use Rattle.spf_der.specs.declared.certificate.ExtensionPart.{ExtensionPart}
use Rattle.spf_der.specs.declared.error.CertReadError.TheVariants.{Parse}
use Rattle.spf_der.specs.declared.error.X509ParseKind.TheVariants.{InvalidCertificate}
use Rattle.spf_der.proofs.scan.scan_extensions.Given as goal

abbrev pub invariant-loop-rest : goal.invariant-loop-rest
invariant-loop-rest l =
    (front : List ExtensionPart)
    × Goes part_at (Parse InvalidCertificate) front l.rest (extensions_rule l.text)
    × HasFound l.found front

abbrev pub decreases-loop-rest : goal.decreases-loop-rest
decreases-loop-rest l = length l.rest
