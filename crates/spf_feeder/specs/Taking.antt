-- What one more event does where a session stands.
use Rattle.std.specs.Prelude.{◌≡◌, Bool, List, ◌∷◌, [], ◌++◌, reverse, Option, None, Some}
use Rattle.std.specs.Prelude.{Result, Ok, Err, if◌then◌else◌}
use Rattle.std.specs.Option.{option_or}
use Rattle.spf_system.specs.declared.pacer.AttemptEnd.{AttemptEnd}
use Rattle.spf_view.specs.Standing.{Kept}
use Rattle.spf_view.specs.Steps.{Step}
use Rattle.spf_feed.specs.declared.event.SessionEvent.{SessionEvent}
use Rattle.spf_feed.specs.declared.phase.Phase.{Phase}
use Rattle.spf_feed.specs.declared.step.Denial.{Denial}
use Rattle.spf_feed.specs.Events.{map_item}
use Rattle.spf_feed.specs.Items.{Event, Rules, context_in}
use Rattle.spf_feed.specs.Received.{received_ask, received_moment, received_outcome}
use Rattle.spf_feed.specs.Received.{received_records, received_refusal}
use Rattle.spf_feed.specs.Steps.{Material, PlainStep}
use Rattle.spf_feed.specs.Turns.{IsTurn, listed}
use Rattle.spf_feeder.specs.Attempts.{attempt_end_by, end_with, gave_with}
use Rattle.spf_feeder.specs.declared.x509_session.Foreseen.{Foreseen}
use Rattle.spf_feeder.specs.declared.x509_session.Place.{Place}
use Rattle.spf_feeder.specs.declared.session.Stop.{Stop}
use Rattle.spf_feeder.specs.declared.session.Stop.TheVariants as stops
use Rattle.spf_feeder.specs.declared.x509_session.Taken.{Taken}
use Rattle.spf_feeder.specs.Kept.{Going, PublishedBy, accepts}
use Rattle.spf_feeder.specs.Kinds.{Kind, x509}

-- Where an event leaves the attempt, and how it ends it: `received` is the event as it is received,
-- and `asks` what is asked next.
pub record LeavesAttempt {I J : Type 0} (e : SessionEvent I) (received : SessionEvent J)
    (asks : Phase) (gave accepted : Bool) (phase : Phase) (gave' : Bool)
    (end : Option AttemptEnd) : Type 0 where
  pub phase_is : phase ≡ asks
  pub gave_is : gave' ≡ gave_with gave accepted e
  pub end_is : end ≡ (if accepted then None else end_with phase gave received)

-- One more event was taken: what is kept stands for the longer run, as `Goes` says, and these are
-- to be recorded.
pub record AdvancedBy {I M B R : Type 0} (k : Kind I M B R)
    (Goes : List (SessionEvent I) → Type 0) (run : List (SessionEvent I)) (e : SessionEvent I)
    (steps : Option (List (Step M B Denial))) (records : List R) (end : Option AttemptEnd) :
    Type 0 where
  pub published : PublishedBy k.subject steps (run ++ e ∷ [])
  pub going : Goes (run ++ e ∷ [])
  pub none : k.refusal (reverse run) e ≡ None
  pub records_are : records ≡ k.records (reverse run) e
  pub end_is : end ≡ attempt_end_by k.subject k.ask (reverse run) e

-- why no event was taken: it is terminal, or memory ran out
abbrev pub TakesNone : {I M B R : Type 0} → Kind I M B R → List (SessionEvent I) → SessionEvent I
    → Stop → Type 0
TakesNone k run e (stops.Terminal end) = k.refusal (reverse run) e ≡ Some end
TakesNone k run e stops.OutOfMemory = Unit {0}

-- ---- of an X.509 session

-- What an event is to do, as it is received: its turn, where it leaves the session, and how it ends
-- the attempt.
pub record Foresees (rules : Rules) (synced : Bool) (place : Place) (e : Event) (seen : Foreseen) :
    Type 0 where
  pub turn : IsTurn (received_refusal rules.deadline synced (map_item context_in e))
      (received_outcome rules synced place.moment (map_item context_in e))
      (received_records synced rules.limits (map_item context_in e)) seen.turn
  pub moment : seen.place.moment
      ≡ option_or (received_moment (map_item context_in e)) place.moment
  pub leaves : LeavesAttempt e (map_item context_in e)
      (received_ask place.phase synced (map_item context_in e)) place.gave_accepted
      (accepts seen.turn) seen.place.phase seen.place.gave_accepted seen.end

-- the event was taken, or was not
abbrev pub Takes : Rules → List Event → Event → Result Taken Stop → Option (Kept Material Denial)
    → Option (List PlainStep) → Place → Type 0
Takes rules run e (Ok taken) kept steps place =
    AdvancedBy (x509 rules)
    (λ r. Going rules r steps kept place.moment place.phase place.gave_accepted) run e steps
    (listed taken.records) taken.end
Takes rules run e (Err stop) kept steps place = TakesNone (x509 rules) run e stop
