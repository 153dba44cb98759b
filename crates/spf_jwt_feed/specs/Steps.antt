-- Steps without their sharing, and what they make visible.
use Rattle.std.specs.Prelude.{ℕ, Bool, List, Option, is_ok}
use Rattle.std.specs.Arc.{arc_value}
use Rattle.spf_view.specs.Steps.{Step, Accept, Deny, MayFollowBy}
pub use Rattle.spf_view.specs.Steps.{is_accept, HasStep}
use Rattle.spf_jwt.specs.Bundle.{Bundle}
use Rattle.spf_jwt.specs.Limits.{within}
use Rattle.spf_jwt.specs.declared.limits.JwtResourceLimits.{JwtResourceLimits}
use Rattle.spf_feed.specs.declared.step.Denial.{Denial}
use Rattle.spf_jwt_feed.specs.declared.step.JwtStep.{JwtStep}
use Rattle.spf_jwt_feed.specs.declared.step.JwtStep.TheVariants as step

-- the bundles of trust domains, in the order of these
abbrev pub BundleSet : Type 0
BundleSet = List (List ℕ × Bundle)

-- a step without its sharing
abbrev pub PlainStep : Type 0
PlainStep = Step BundleSet JwtResourceLimits Denial

abbrev pub plain : JwtStep → PlainStep
plain (step.Accept set limits) = Accept (arc_value set) limits
plain (step.Deny reason) = Deny (arc_value reason)

-- the bundle set keeps the limits
abbrev pub fits : JwtResourceLimits → BundleSet → Bool
fits limits set = is_ok (within limits set)

-- a step may come next: an Accept that fits, or a Deny after another step
abbrev pub MayFollow : Option (List PlainStep) → PlainStep → Type 0
MayFollow = MayFollowBy fits
