use Rattle.std.proofs.Common.{◌≡◌, Ok, take}
use Rattle.spf_io.specs.Rule.{each}
use Rattle.spf_jwt.specs.Responses.{svid_of_entry}
use Rattle.spf_jwt.proofs.responses.entry_svids.Given as goal

abbrev pub invariant-loop-entry : goal.invariant-loop-entry
invariant-loop-entry l = each svid_of_entry (take l.entry-index l.entries) ≡ Ok l.svids.items
