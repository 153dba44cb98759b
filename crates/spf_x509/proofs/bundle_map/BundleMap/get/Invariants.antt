use Rattle.std.proofs.Common.{◌≡◌, ◌++◌, map, drop}
use Rattle.spf_x509.specs.Bundle.{find_entry, plain_entry}
use Rattle.spf_x509.proofs.bundle_map.BundleMap.get.Given as goal

abbrev pub invariant-loop-name : goal.invariant-loop-name
invariant-loop-name l = find_entry l.trust_domain l.self
    ≡ find_entry l.trust_domain (map plain_entry (drop l.name-index l.name-items)
    ++ map plain_entry l.self-inside.many.entries)
