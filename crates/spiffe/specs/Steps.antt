-- Board lists of X.509 steps, and what they replay to.
use Rattle.std.specs.Prelude.{Bool, ℤ, List, Option, is_some}
use Rattle.std.specs.Option.{option_and_then}
use Rattle.spf_view.specs.Standing.{Kept, ReplaysTo, held_in}
use Rattle.spf_view.specs.Steps.{IsLegal}
use Rattle.spf_feed.specs.declared.step.Denial.{Denial}
use Rattle.spf_feed.specs.Steps.{PlainStep, fits, Material, same_material, chosen_of}
use Rattle.spf_feed.specs.Pick.{usable}

-- there is a first step, it accepts, each Accept keeps its limits, and its choice is in range
abbrev pub Legal : List PlainStep → Type 0
Legal = IsLegal fits

-- the steps replay to what is kept, which shows something
abbrev pub Replays : List PlainStep → Kept Material Denial → Type 0
Replays = ReplaysTo same_material

-- the choice of the held context is there and unexpired at the moment
abbrev pub is_usable : Kept Material Denial → Option ℤ → Bool
is_usable kept now = is_some (usable (option_and_then chosen_of (held_in kept.view)) now)
