use Rattle.std.proofs.Common.{◌≡◌, Ok, take}
use Rattle.spf_io.specs.Rule.{each}
use Rattle.spf_x509.specs.Certificate.{certificate_of}
use Rattle.spf_x509.proofs.bundle.certificates_from.Given as goal

abbrev pub invariant-loop-authority : goal.invariant-loop-authority
invariant-loop-authority l =
    each certificate_of (take l.authority-index l.authorities) ≡ Ok l.certificates
