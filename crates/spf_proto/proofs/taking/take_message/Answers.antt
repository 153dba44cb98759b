use Rattle.spf_proto.proofs.TakingLemmas.{came_more}
use Rattle.spf_proto.proofs.taking.take_message.Goals as goal

pub returns-in_err-step-clause-came : goal.returns-in_err-step-clause-came
returns-in_err-step-clause-came g c =
    came_more (g.T.LentSource.left c.args.source.now) (g.T.LentSource.left c.loop.source)
    (g.T.LentSource.left c.step.new.source) c.args.got.now c.loop.got c.step.new.got
    c.loop.invariant.0.came c.step.ensures.came
