use Rattle.std.proofs.Common.{◌≡◌, map, take}
use Rattle.spf_x509.specs.Bundle.{plain_entry}
use Rattle.spf_x509.specs.Few.{few_items}
use Rattle.spf_x509.proofs.bundle_map.shared_entries.Given as goal

abbrev pub invariant-loop-trust_domain : goal.invariant-loop-trust_domain
invariant-loop-trust_domain l =
    map plain_entry (few_items l.shared) ≡ map plain_entry (take l.trust_domain-index l.entries)
