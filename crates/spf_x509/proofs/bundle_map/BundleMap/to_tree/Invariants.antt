use Rattle.std.proofs.Common.{◌≡◌, map, []}
use Rattle.spf_x509.specs.Bundle.{plain_entry, with_entries}
use Rattle.spf_x509.proofs.bundle_map.BundleMap.to_tree.Given as goal

abbrev pub invariant-loop-trust_domain : goal.invariant-loop-trust_domain
invariant-loop-trust_domain l =
    with_entries (map plain_entry l.tree.entries) l.trust_domain-iterator
    ≡ with_entries [] l.self
