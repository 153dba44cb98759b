use Rattle.std.proofs.Common.{length}
use Rattle.spf_messages.specs.Folded.{message_from}
use Rattle.spf_messages.proofs.Fields.{Left}
use Rattle.spf_messages.proofs.message.read_onto.Given as goal

abbrev pub invariant-loop-rest : goal.invariant-loop-rest
invariant-loop-rest g l =
    Left g.M.Message.with_field (g.M.Message.entry_of l.message) l.rest
    (message_from g.M.Message.with_field (g.M.Message.entry_of l.fn.start) l.fn.bytes)

abbrev pub decreases-loop-rest : goal.decreases-loop-rest
decreases-loop-rest g l = length l.rest
