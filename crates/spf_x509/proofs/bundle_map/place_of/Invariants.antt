use Rattle.std.proofs.Common.{◌≡◌, ◌≤◌, ◌∷◌, length, drop}
use Rattle.std.specs.declared.sync.Arc.{Arc}
use Rattle.std.specs.declared.alloc.Global.{Global}
use Rattle.spf_x509.specs.Bundle.{Bundle, with_entry}
use Rattle.spf_x509.proofs.bundle_map.place_of.Given as goal

abbrev pub invariant-loop-index : goal.invariant-loop-index
invariant-loop-index l = record {
  within : l.index ≤ length l.entries;
  before : (v : Arc Bundle Global) → with_entry (drop l.index l.entries) l.trust_domain v
      ≡ (l.trust_domain, v) ∷ drop l.index l.entries;
}

abbrev pub decreases-loop-index : goal.decreases-loop-index
decreases-loop-index l = l.index
