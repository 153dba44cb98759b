-- Steps without their sharing, and what they make visible.
use Rattle.std.specs.Prelude.{ℕ, Bool, true, ◌&&◌, nat_lt, List, length}
use Rattle.std.specs.Prelude.{Option, None, Some, is_ok}
use Rattle.std.specs.Option.{option_map_or}
use Rattle.std.specs.Arc.{arc_value}
use Rattle.spf_feed.specs.declared.limits.ResourceLimits.{ResourceLimits}
use Rattle.spf_feed.specs.declared.step.Denial.{Denial}
use Rattle.spf_feed.specs.declared.step.Step.{Step}
use Rattle.spf_feed.specs.declared.step.Step.TheVariants as step
pub use Rattle.spf_view.specs.Views.{View, Waiting, Withdrawn, Permitted}
pub use Rattle.spf_view.specs.Steps.{Step as PlainStepOf, Accept, Deny, is_accept, HasStep}
use Rattle.spf_view.specs.Steps.{MayFollowBy}
pub use Rattle.spf_view.specs.Standing.{Kept, held_in, reason_of, shown_by, raised}
use Rattle.spf_feed.specs.Limits.{within}
pub use Rattle.spf_feed.specs.Material.{Material, chosen_of, same_material}

-- a step without its sharing
abbrev pub PlainStep : Type 0
PlainStep = PlainStepOf Material ResourceLimits Denial

abbrev pub plain : Step → PlainStep
plain (step.Accept context limits choice) =
    Accept (record { context = arc_value context; choice = choice }) limits
plain (step.Deny reason) = Deny (arc_value reason)

abbrev pub material_in : PlainStep → Option Material
material_in (Accept material limits) = Some material
material_in (Deny reason) = None

abbrev pub reason_in : PlainStep → Option Denial
reason_in (Accept material limits) = None
reason_in (Deny reason) = Some reason

-- the context keeps the limits, and its choice is none or in range
abbrev pub fits : ResourceLimits → Material → Bool
fits limits material =
    is_ok (within limits material.context)
    && option_map_or (λ index. nat_lt index (length material.context.svids)) material.choice true

-- a step may come next: an Accept that fits, or a Deny after another step
abbrev pub MayFollow : Option (List PlainStep) → PlainStep → Type 0
MayFollow = MayFollowBy fits

-- a revision and a view, with whether the source is closed
pub record StateView : Type 0 where
  pub revision : ℕ
  pub closed : Bool
  pub view : View Material Denial
