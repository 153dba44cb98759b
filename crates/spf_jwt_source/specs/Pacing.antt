-- The delays of a run of JWT bundles.
use Rattle.std.specs.Prelude.{List}
use Rattle.spf_system.specs.declared.pace.Pace.{Pace}
use Rattle.spf_feeder.specs.Pacing.{KeepsPaceOf}
use Rattle.spf_jwt_feed.specs.Items.{Event, Rules}
use Rattle.spf_jwt_source.specs.Kinds.{jwt}

abbrev pub KeepsPace : Rules → List Event → Pace → Type 0
KeepsPace rules run pace = KeepsPaceOf (jwt rules) run pace
