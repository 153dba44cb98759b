-- What a snapshot keeps.
use Rattle.std.specs.Prelude.{IsTrue}
use Rattle.std.specs.Arc.{arc_value}
use Rattle.spf_feed.specs.declared.standing.Standing.{Standing}
use Rattle.spf_feed.specs.declared.standing.Standing.TheVariants as standing
use Rattle.spf_feed.specs.declared.step.Denial.{Denial}
use Rattle.spf_feed.specs.Steps.{Material, View, Withdrawn, shown_by, is_accept}

abbrev pub view_in : Standing → View Material Denial
view_in (standing.Permitted held) = shown_by held
view_in (standing.Withdrawn reason) = Withdrawn (arc_value reason)

-- a permitted standing keeps an Accept
abbrev pub IsKept : Standing → Type 0
IsKept (standing.Permitted held) = IsTrue (is_accept held)
IsKept (standing.Withdrawn reason) = Unit {0}
