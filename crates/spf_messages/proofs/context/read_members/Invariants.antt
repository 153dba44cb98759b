use Rattle.std.proofs.Common.{length}
use Rattle.spf_messages.specs.Folded.{context_with}
use Rattle.spf_messages.specs.Message.{context_members}
use Rattle.spf_messages.specs.Members.{shown}
use Rattle.spf_messages.proofs.Fields.{Left}
use Rattle.spf_messages.proofs.context.read_members.Given as goal

abbrev pub invariant-loop-rest : goal.invariant-loop-rest
invariant-loop-rest l = Left context_with (shown l.members) l.rest (context_members l.fn.bytes)

abbrev pub decreases-loop-rest : goal.decreases-loop-rest
decreases-loop-rest l = length l.rest
