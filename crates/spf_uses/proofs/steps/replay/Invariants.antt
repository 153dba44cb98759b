use Rattle.std.proofs.Common.{◌∷◌}
use Rattle.spf_view.specs.Standing.{Stands}
use Rattle.spf_feed.specs.Steps.{same_material}
use Rattle.spf_uses.proofs.steps.replay.Given as goal

abbrev pub invariant-loop-step : goal.invariant-loop-step
invariant-loop-step l = Stands same_material (l.fn.first ∷ l.yielded) l.snapshot
