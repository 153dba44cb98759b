use Rattle.std.proofs.Common.{length}
use Rattle.spf_der.specs.declared.error.X509ParseKind.TheVariants.{InvalidCertificate}
use Rattle.spf_x509.specs.declared.error.CertificateError.TheVariants.{ParseX509Certificate}
use Rattle.spf_io.proofs.Many.{Goes}
use Rattle.spf_x509.specs.Chain.{authority_at, authorities_after}
use Rattle.spf_x509.proofs.bundle.with_authorities.Given as goal

abbrev pub invariant-loop-rest : goal.invariant-loop-rest
invariant-loop-rest l =
    Goes authority_at (ParseX509Certificate InvalidCertificate) l.authorities l.rest
    (authorities_after l.fn.certificates l.der)

abbrev pub decreases-loop-rest : goal.decreases-loop-rest
decreases-loop-rest l = length l.rest
