use Rattle.std.proofs.Common.{◌∷◌}
use Rattle.spf_uses.proofs.steps.replay.Goals as goal

pub loop-step-preserved : goal.loop-step-preserved
loop-step-preserved c =
    c.apply.ensures.stands (c.args.first ∷ c.loop-step.yielded) c.loop-step.invariant
