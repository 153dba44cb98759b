use Rattle.spf_proto.proofs.LastOfEach.{kept_with}
use Rattle.spf_proto.proofs.message.last_of_each.Goals as goal

pub loop-entry-preserved : goal.loop-entry-preserved
loop-entry-preserved c =
    kept_with _ _ _ _ _ _ _ c.in-Some.entry.now c.in-Some.ensures.steps c.in_ok-keep.ensures
    c.loop-entry.invariant
