use Rattle.std.proofs.Common.{◌≡◌, take}
use Rattle.spf_x509.proofs.certificates.Certificates.try_clone.Given as goal

abbrev pub invariant-loop-certificate : goal.invariant-loop-certificate
invariant-loop-certificate l = l.copies ≡ take l.certificate-index l.certificates
