use Rattle.std.proofs.Common.{map, take}
use Rattle.std.specs.Arc.{arc_value}
use Rattle.spf_api.specs.Views.{svid_entry_of}
use Rattle.spf_api.specs.Parsed.{pair_of}
use Rattle.spf_api.specs.Sharing.{IsLastIn}
use Rattle.spf_api.proofs.Added.{Placed}
use Rattle.spf_api.proofs.response_rule.shared_svids.Given as goal

abbrev pub invariant-loop-entry : goal.invariant-loop-entry
invariant-loop-entry l =
    Placed (λ v. pair_of (svid_entry_of v)) (take l.entry-index l.entries)
    (map arc_value l.svids.items) l.initial.bundles l.bundles
    × IsLastIn l.svids.items l.last l.bundles
