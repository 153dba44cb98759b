use Rattle.std.proofs.Common.{length, map}
use Rattle.spf_io.proofs.Many.{Goes}
use Rattle.spf_der.specs.Part.{plain}
use Rattle.spf_der.specs.Read.{extensions_rule, part_at}
use Rattle.spf_der.specs.declared.error.CertReadError.TheVariants.{Parse}
use Rattle.spf_der.specs.declared.error.X509ParseKind.TheVariants.{InvalidCertificate}
use Rattle.spf_der.proofs.certificate.extensions.Given as goal

abbrev pub invariant-loop-rest : goal.invariant-loop-rest
invariant-loop-rest l =
    Goes part_at (Parse InvalidCertificate) (map plain l.found.items) l.rest
    (extensions_rule l.text)

abbrev pub decreases-loop-rest : goal.decreases-loop-rest
decreases-loop-rest l = length l.rest
