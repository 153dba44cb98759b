use Rattle.std.proofs.Common.{refl, subst, true}
use Rattle.spf_view.specs.Sessions.{GrowsUpTo}
use Rattle.spf_feed.specs.Following.{update_of}
use Rattle.spf_feed.specs.Steps.{same_material}
use Rattle.spf_feed.proofs.HandLemmas.{step_unpublished, step_unrecorded}
use Rattle.spf_feed.proofs.following.accept.Goals as goal

pub returns-in_err-change-clause-taken : goal.returns-in_err-change-clause-taken
returns-in_err-change-clause-taken g c =
    step_unpublished same_material _ _ _ _ _ c.from_residual.ensures.0
    c.in_err-change.ensures.steps refl

pub returns-in_err-record_change-clause-taken : goal.returns-in_err-record_change-clause-taken
returns-in_err-record_change-clause-taken g c =
    step_unrecorded same_material _ _ _ _ _ c.from_residual-in_err-record_change.ensures.0
    c.in_ok-change.ensures.steps
    (subst (λ x.
    GrowsUpTo (g.M.MetricsRecorder.records c.args.recorder.now)
    (g.M.MetricsRecorder.records c.record_change.new.recorder) (update_of x) true)
    c.in_ok-change.ensures.change c.in_err-record_change.ensures)
