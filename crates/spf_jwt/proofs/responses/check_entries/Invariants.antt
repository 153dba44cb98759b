use Rattle.spf_jwt.specs.Responses.{entry_required}
use Rattle.spf_jwt.proofs.Kept.{KeptFrom}
use Rattle.spf_jwt.proofs.responses.check_entries.Given as goal

abbrev pub invariant-loop-entry : goal.invariant-loop-entry
invariant-loop-entry l = KeptFrom entry_required l.entry-index l.entries
