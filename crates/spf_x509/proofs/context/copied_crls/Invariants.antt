use Rattle.std.proofs.Common.{◌≡◌, take}
use Rattle.spf_x509.proofs.context.copied_crls.Given as goal

abbrev pub invariant-loop-crl : goal.invariant-loop-crl
invariant-loop-crl l = l.copied.items ≡ take l.crl-index l.crls
