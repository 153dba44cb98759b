use Rattle.std.proofs.Common.{take}
use Rattle.spf_api.specs.Views.{svid_entry_of}
use Rattle.spf_api.specs.Parsed.{pair_of}
use Rattle.spf_api.proofs.Added.{Brought}
use Rattle.spf_api.proofs.response_rule.owned_svids.Given as goal

abbrev pub invariant-loop-entry : goal.invariant-loop-entry
invariant-loop-entry l =
    Brought (λ v. pair_of (svid_entry_of v)) (take l.entry-index l.entries) l.svids.items
