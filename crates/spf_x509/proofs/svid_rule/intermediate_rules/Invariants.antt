use Rattle.std.proofs.Common.{◌≡◌, ℕ, List, Ok, take}
use Rattle.spf_io.specs.Rule.{each}
use Rattle.spf_der.specs.Part.{Parts}
use Rattle.spf_x509.specs.Rule.{intermediate_rule}
use Rattle.spf_x509.proofs.svid_rule.intermediate_rules.Given as goal

abbrev pub invariant-loop-certificate : goal.invariant-loop-certificate
invariant-loop-certificate l =
    (ys : List (Unit {0}))
    × (each (λ (p : Parts × List ℕ). intermediate_rule p.0)
    (take l.certificate-index l.certificates) ≡ Ok ys)
