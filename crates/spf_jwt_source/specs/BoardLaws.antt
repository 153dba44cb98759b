-- What a first step, and one more step, replay to.
use Rattle.std.proofs.Common.{List, [], ◌∷◌, ◌++◌, IsTrue}
use Rattle.spf_view.proofs.Replaying as replaying
use Rattle.spf_view.specs.Standing.{Kept, kept_first, kept_next}
use Rattle.spf_feed.specs.declared.step.Denial.{Denial}
use Rattle.spf_jwt.specs.Bundle.{set_eq}
use Rattle.spf_jwt.specs.Laws.{set_equiv}
use Rattle.spf_jwt_feed.specs.Steps.{PlainStep, BundleSet, fits, is_accept}
use Rattle.spf_jwt_source.specs.Steps.{Legal, Replays}

pub first_accepts : (step : PlainStep) → Legal (step ∷ []) → IsTrue (is_accept step)
first_accepts = replaying.first_accepts fits

pub replays_first : (step : PlainStep) → Legal (step ∷ []) → Replays (step ∷ []) (kept_first step)
replays_first = replaying.replays_first set_eq fits

pub replays_after : (steps : List PlainStep) (kept : Kept BundleSet Denial) (step : PlainStep)
    → Replays steps kept → Replays (steps ++ step ∷ []) (kept_next set_eq kept step)
replays_after = replaying.replays_after set_eq set_equiv
