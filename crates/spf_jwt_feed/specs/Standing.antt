-- What a snapshot keeps.
use Rattle.std.specs.Arc.{arc_value}
use Rattle.spf_view.specs.Views.{View, Withdrawn, Permitted}
use Rattle.spf_feed.specs.declared.step.Denial.{Denial}
use Rattle.spf_jwt_feed.specs.declared.standing.Standing.{Standing}
use Rattle.spf_jwt_feed.specs.declared.standing.Standing.TheVariants as standing
use Rattle.spf_jwt_feed.specs.Steps.{BundleSet}

abbrev pub view_in : Standing → View BundleSet Denial
view_in (standing.Permitted set) = Permitted (arc_value set)
view_in (standing.Withdrawn reason) = Withdrawn (arc_value reason)
