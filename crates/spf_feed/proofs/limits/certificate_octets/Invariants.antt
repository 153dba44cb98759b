use Rattle.std.proofs.Common.{◌≡◌, take}
use Rattle.spf_feed.specs.Limits.{octets_in}
use Rattle.spf_feed.proofs.limits.certificate_octets.Given as goal

abbrev pub invariant-loop-certificate : goal.invariant-loop-certificate
invariant-loop-certificate l = l.total ≡ octets_in (take l.certificate-index l.certificates)
