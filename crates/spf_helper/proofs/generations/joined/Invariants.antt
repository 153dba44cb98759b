use Rattle.std.proofs.Common.{◌≡◌, take}
use Rattle.std.specs.List.{flat_map}
use Rattle.spf_helper.proofs.generations.joined.Given as goal

abbrev pub invariant-loop-certificate : goal.invariant-loop-certificate
invariant-loop-certificate l =
    l.octets.items ≡ flat_map (λ c. c) (take l.certificate-index l.certificates)
