-- Board lists of JWT steps, and what they replay to.
use Rattle.std.specs.Prelude.{Bool, false, List}
use Rattle.std.specs.Option.{option_map_or}
use Rattle.spf_view.specs.Standing.{Kept, ReplaysTo, held_in}
use Rattle.spf_view.specs.Steps.{IsLegal, Accept, Deny}
use Rattle.spf_feed.specs.declared.step.Denial.{Denial}
use Rattle.spf_jwt.specs.Bundle.{set_eq}
use Rattle.spf_jwt_feed.specs.States.{has_authority}
use Rattle.spf_jwt_feed.specs.Steps.{BundleSet, PlainStep, fits}

-- there is a first step, it accepts, and each Accept keeps its limits
abbrev pub Legal : List PlainStep → Type 0
Legal = IsLegal fits

-- the steps replay to what is kept, which shows something
abbrev pub Replays : List PlainStep → Kept BundleSet Denial → Type 0
Replays = ReplaysTo set_eq

-- a bundle set is held, and the bundle of some trust domain has a key
abbrev pub is_usable : Kept BundleSet Denial → Bool
is_usable kept = option_map_or has_authority (held_in kept.view) false

-- the same after a step
abbrev pub usable_by : PlainStep → Bool
usable_by (Accept set limits) = has_authority set
usable_by (Deny reason) = false
