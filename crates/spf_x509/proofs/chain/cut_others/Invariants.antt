use Rattle.std.proofs.Common.{length}
use Rattle.spf_x509.specs.declared.error.CertificateError.TheVariants.{TooManyCertificates}
use Rattle.spf_x509.specs.Chain.{certificate_text_at, chain_after}
use Rattle.spf_x509.proofs.Within.{GoesWithin}
use Rattle.spf_x509.proofs.chain.cut_others.Given as goal

abbrev pub invariant-loop-rest : goal.invariant-loop-rest
invariant-loop-rest l =
    GoesWithin certificate_text_at (TooManyCertificates 16) 16 l.parts.items l.rest
    (chain_after l.fn.leaf l.fn.second l.others)

abbrev pub decreases-loop-rest : goal.decreases-loop-rest
decreases-loop-rest l = length l.rest
