-- What a builder makes of a source, whatever its kind.
use Rattle.std.specs.Prelude.{◌≡◌, ℕ, ℤ, List, [], Option, IfSome, reverse}
use Rattle.spf_link.specs.Connecting.{Member}
use Rattle.spf_system.specs.declared.reconnect_config.ReconnectConfig.{ReconnectConfig}
use Rattle.spf_view.specs.Steps.{Step, steps_of}
use Rattle.spf_feed.specs.declared.step.Denial.{Denial}
use Rattle.spf_feeder.specs.Kinds.{Kind}
use Rattle.spf_feeder.specs.Coming.{AllYieldedOf}
use Rattle.spf_feeder.specs.Orderly.{IsOrderlyOf, IsSyncedOf}
use Rattle.spf_feeder.specs.Times.{GivesMoments}
use Rattle.spf_board.specs.Passes.{PassView}
use Rattle.spf_system.specs.Marks.{Mark}
use Rattle.spf_board.specs.Lists.{steps_of as board_steps}
use Rattle.spf_board.specs.Sources.{Source}
use Rattle.spf_feeder.specs.Records.{AssignedOf}

-- What an initial synchronisation leaves to a supervisor: the rules are those of the builder, the
-- connector has its meaning, the run is synchronised, its events answer their asks and are what the
-- connector had to yield, where that is known, and its moments are those that the clock gave.
pub record IsAssignedBy {S G I M B R : Type 0} (members : S → Option (List Member))
    (kind : G → Kind I M B R) (IsSet : G → Type 0) (bounds : ReconnectConfig) (connector : S)
    (clock clock' : Option (List (Option ℤ))) (job : AssignedOf S G I) : Type 0 where
  pub rules : IsSet job.rules
  pub bounds_are : job.bounds ≡ bounds
  pub members_are : members job.first ≡ members connector
  pub synced : IsSyncedOf (kind job.rules) (reverse job.run)
  pub orderly : IsOrderlyOf (kind job.rules) (reverse job.run)
  pub yielded : IfSome (members connector)
      (λ m. AllYieldedOf (kind job.rules) m (reverse job.run))
  pub clock_is : GivesMoments clock clock' [] job.run

-- A source, its first pass, what closes it, and the job of its supervisor: the pass has seen the
-- steps of the initial synchronisation, and all are of one board and one closed cell.
pub record IsBuiltBy {S G I M B R : Type 0} (kind : G → Kind I M B R) (source : Source)
    (pass : PassView (Step M B Denial) Mark) (closing : ℕ) (job : AssignedOf S G I) : Type 0 where
  pub pass_board : pass.book ≡ source.board
  pub board : job.board ≡ source.board
  pub cell : job.cell ≡ source.cell
  pub closing_cell : closing ≡ source.cell
  pub seen : board_steps pass.seen ≡ steps_of (kind job.rules).subject job.run
