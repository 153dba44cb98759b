use Rattle.spf_proto.proofs.LastOfEach.{Kept}
use Rattle.spf_proto.proofs.message.last_of_each.Given as goal

abbrev pub invariant-loop-entry : goal.invariant-loop-entry
invariant-loop-entry l = Kept l.fn.entries l.entry-iterator.iter.rest.now l.kept.items l.names
