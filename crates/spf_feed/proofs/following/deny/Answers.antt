use Rattle.std.proofs.Common.{refl}
use Rattle.spf_feed.specs.Steps.{same_material}
use Rattle.spf_feed.proofs.HandLemmas.{step_unpublished, step_unrecorded}
use Rattle.spf_feed.proofs.following.deny.Goals as goal

pub returns-in_err-change-clause-taken : goal.returns-in_err-change-clause-taken
returns-in_err-change-clause-taken g c =
    step_unpublished same_material _ _ _ _ _ c.from_residual.ensures.0
    c.in_err-change.ensures.steps refl

pub returns-in_err-record_all-clause-taken : goal.returns-in_err-record_all-clause-taken
returns-in_err-record_all-clause-taken g c =
    step_unrecorded same_material _ _ _ _ _ c.from_residual-in_err-record_all.ensures.0
    c.in_ok-change.ensures.steps c.in_err-record_all.ensures
