-- What a first step, and one more step, replay to.
use Rattle.std.proofs.Common.{List, [], ◌∷◌, ◌++◌, IsTrue}
use Rattle.spf_view.proofs.Replaying as replaying
use Rattle.spf_view.specs.Standing.{Kept, kept_first, kept_next}
use Rattle.spf_feed.proofs.Alike.{material_equiv}
use Rattle.spf_feed.specs.declared.step.Denial.{Denial}
use Rattle.spf_feed.specs.Steps.{PlainStep, Material, fits, is_accept, same_material}
use Rattle.spiffe.specs.Steps.{Legal, Replays}

pub first_accepts : (step : PlainStep) → Legal (step ∷ []) → IsTrue (is_accept step)
first_accepts = replaying.first_accepts fits

pub replays_first : (step : PlainStep) → Legal (step ∷ []) → Replays (step ∷ []) (kept_first step)
replays_first = replaying.replays_first same_material fits

pub replays_after : (steps : List PlainStep) (kept : Kept Material Denial) (step : PlainStep)
    → Replays steps kept → Replays (steps ++ step ∷ []) (kept_next same_material kept step)
replays_after = replaying.replays_after same_material material_equiv
