use Rattle.std.proofs.Common.{length}
use Rattle.spf_messages.proofs.LastOfEach.{Kept}
use Rattle.spf_messages.proofs.named.last_of_each.Given as goal

abbrev pub invariant-loop-entry : goal.invariant-loop-entry
invariant-loop-entry g l =
    Kept g.V.Named.entry_of g.V.Named.name_of l.fn.entries.items l.left.items l.kept.items l.names

abbrev pub decreases-loop-entry : goal.decreases-loop-entry
decreases-loop-entry g l = length l.left.items
