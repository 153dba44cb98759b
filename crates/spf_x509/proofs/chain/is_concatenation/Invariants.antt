use Rattle.std.proofs.Common.{◌≡◌, ℕ, List, ◌++◌, take}
use Rattle.spf_der.specs.Grammar.{CertsOf}
use Rattle.spf_x509.proofs.chain.is_concatenation.Given as goal

abbrev pub invariant-loop-certificate : goal.invariant-loop-certificate
invariant-loop-certificate l =
    (front : List ℕ) × (l.der ≡ front ++ l.rest)
    × CertsOf front (take l.certificate-index l.certificates)
