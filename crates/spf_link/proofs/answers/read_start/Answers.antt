use Rattle.std.proofs.Common.{rules}
use Rattle.spf_link.proofs.PassedLemmas.{passed_more, start_stopped}
use Rattle.spf_link.proofs.answers.read_start.Goals as goal

pub frames-preserved : goal.frames-preserved
frames-preserved g c = (
  passed_more _ _ _ _ c.frames.invariant.0
      (rw c.in-Ok-None.field-0-is at c.in-Ok-None.ensures.bytes),
  search rules,
)

pub returns-clause-bytes : goal.returns-clause-bytes
returns-clause-bytes g c = start_stopped _ _ _ c.frames.invariant.0
