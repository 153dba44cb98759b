-- What one more event does where a session stands.
use Rattle.std.specs.Prelude.{Bool, List, Option, Result, Ok, Err}
use Rattle.spf_view.specs.Standing.{Kept}
use Rattle.spf_feed.specs.declared.step.Denial.{Denial}
use Rattle.spf_feed.specs.Events.{map_item}
use Rattle.spf_feeder.specs.declared.session.Stop.{Stop}
use Rattle.spf_feeder.specs.Taking.{AdvancedBy, LeavesAttempt, TakesNone}
use Rattle.spf_jwt_feed.specs.Items.{Event, Rules, item_in}
use Rattle.spf_jwt_feed.specs.Received.{received_ask, received_outcome}
use Rattle.spf_jwt_feed.specs.Received.{received_records, received_refusal}
use Rattle.spf_jwt_feed.specs.Steps.{BundleSet, PlainStep}
use Rattle.spf_jwt_feed.specs.Turns.{IsTurn, listed}
use Rattle.spf_jwt_source.specs.declared.session.Foreseen.{Foreseen}
use Rattle.spf_jwt_source.specs.declared.session.Place.{Place}
use Rattle.spf_jwt_source.specs.declared.session.Taken.{Taken}
use Rattle.spf_jwt_source.specs.Kept.{Going, accepts}
use Rattle.spf_jwt_source.specs.Kinds.{jwt}

-- What an event is to do, as it is received: its turn, where it leaves the session, and how it ends
-- the attempt.
pub record Foresees (rules : Rules) (synced : Bool) (place : Place) (e : Event) (seen : Foreseen) :
    Type 0 where
  pub turn : IsTurn (received_refusal rules.deadline synced (map_item item_in e))
      (received_outcome rules.limits synced (map_item item_in e))
      (received_records synced rules.limits (map_item item_in e)) seen.turn
  pub leaves : LeavesAttempt e (map_item item_in e)
      (received_ask place.phase synced (map_item item_in e)) place.gave_accepted
      (accepts seen.turn) seen.place.phase seen.place.gave_accepted seen.end

-- the event was taken, or was not
abbrev pub Takes : Rules → List Event → Event → Result Taken Stop → Option (Kept BundleSet Denial)
    → Option (List PlainStep) → Place → Type 0
Takes rules run e (Ok taken) kept steps place =
    AdvancedBy (jwt rules) (λ r. Going rules r steps kept place.phase place.gave_accepted) run e
    steps (listed taken.records) taken.end
Takes rules run e (Err stop) kept steps place = TakesNone (jwt rules) run e stop
