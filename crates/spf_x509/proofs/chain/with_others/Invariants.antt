use Rattle.std.proofs.Common.{◌≡◌, ◌∷◌, take}
use Rattle.spf_x509.proofs.chain.with_others.Given as goal

abbrev pub invariant-loop-certificate : goal.invariant-loop-certificate
invariant-loop-certificate l =
    l.certificates ≡ l.fn.leaf ∷ take l.certificate-index l.others
