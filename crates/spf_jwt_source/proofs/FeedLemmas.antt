-- The first step of a session of JWT bundles.
use Rattle.std.proofs.Common.{List}
use Rattle.spf_view.specs.Steps.{Accept, steps_of}
use Rattle.spf_feeder.specs.Orderly.{IsFirstStep}
use Rattle.spf_jwt_feed.specs.Items.{Event, Rules, subject}
use Rattle.spf_jwt_source.specs.Kinds.{jwt}
use Rattle.spf_jwt_source.specs.Orderly.{IsOneStep}

pub one_step : (rules : Rules) (run : List Event) → IsFirstStep (jwt rules) run
    → IsOneStep (steps_of (subject rules) run)
one_step rules run (m, is, within) = (Accept m rules.limits, is, within)
