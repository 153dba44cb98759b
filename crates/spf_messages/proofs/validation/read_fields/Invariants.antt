use Rattle.std.proofs.Common.{length, [], None}
use Rattle.spf_messages.specs.Folded.{claims_put, keyed_with, message_from}
use Rattle.spf_messages.specs.Members.{validation_shown}
use Rattle.spf_messages.proofs.Fields.{Left}
use Rattle.spf_messages.proofs.validation.read_fields.Given as goal

abbrev pub invariant-loop-rest : goal.invariant-loop-rest
invariant-loop-rest l =
    Left (keyed_with claims_put) (validation_shown l.validation) l.rest
    (message_from (keyed_with claims_put) ([], None) l.fn.bytes)

abbrev pub decreases-loop-rest : goal.decreases-loop-rest
decreases-loop-rest l = length l.rest
