use Rattle.std.proofs.Common.{length, map}
use Rattle.spf_messages.specs.Folded.{entries_with}
use Rattle.spf_messages.specs.Message.{entries_in}
use Rattle.spf_messages.proofs.Fields.{Left}
use Rattle.spf_messages.proofs.view.read_list.Given as goal

abbrev pub invariant-loop-rest : goal.invariant-loop-rest
invariant-loop-rest g l =
    Left (entries_with g.V.View.entry_in l.number l.max) (map g.V.View.entry_of l.views.items)
    l.rest (entries_in g.V.View.entry_in l.number l.max l.fn.bytes)

abbrev pub decreases-loop-rest : goal.decreases-loop-rest
decreases-loop-rest g l = length l.rest
