-- How an initial synchronisation may end.
use Rattle.std.specs.Prelude.{◌≡◌, ◌||◌, true, false, ℤ, ◌≤ℤ◌, pos, List, [], ◌∷◌, ◌++◌, Option}
use Rattle.std.specs.Prelude.{IfSome, Result, reverse}
use Rattle.spf_api.specs.declared.endpoint_error.EndpointError.{EndpointError}
use Rattle.std.specs.Option.{option_map}
use Rattle.std.specs.declared.time.Duration.{Duration}
use Rattle.spf_system.specs.declared.pace.Pace.{Pace}
use Rattle.spf_feed.specs.declared.event.SessionEvent.{SessionEvent}
use Rattle.spf_feeder.specs.declared.session.Stop.{Stop}
use Rattle.spf_view.specs.Views.{has_synced}
use Rattle.spf_link.specs.Connecting.{Member}
use Rattle.spf_feed.specs.declared.turn.Terminal.{Terminal}
use Rattle.spf_feeder.specs.declared.session.Stop.TheVariants as stops
use Rattle.spf_feeder.specs.Coming.{AllYieldedOf}
use Rattle.spf_feeder.specs.Fed.{EndsRun}
use Rattle.spf_feeder.specs.Kinds.{Kind}
use Rattle.spf_feeder.specs.Orderly.{IsFirstStep, IsOrderlyOf, IsSyncedOf, IsTimedOf, does_answer}
use Rattle.spf_feeder.specs.Orderly.{is_moment}
use Rattle.spf_feeder.specs.Pacing.{KeepsPaceOf}
use Rattle.spf_feeder.specs.Times.{GivesMoments, deadline_after}

-- the deadline is that of some first moment
pub record HasDeadline (timeout : Option Duration) (deadline : Option ℤ) : Type 0 where
  pub first : ℤ
  pub range : pos 0 ≤ℤ first
  pub deadline_is : deadline ≡ option_map (deadline_after first) timeout

-- Something is accepted, by exactly one step. The events answer their asks, and are what the
-- connector had to yield, where that is known. The moments stand where they should, and are those
-- that the clock gave. The pace is that of the run.
pub record IsOpened {I M B R : Type 0} (k : Kind I M B R) (members : Option (List Member))
    (clock clock' : Option (List (Option ℤ))) (run : List (SessionEvent I)) (pace : Pace) :
    Type 0 where
  pub orderly : IsOrderlyOf k (reverse run)
  pub yielded : IfSome members (λ m. AllYieldedOf k m (reverse run))
  pub synced : IsSyncedOf k (reverse run)
  pub once : IsFirstStep k run
  pub clock_is : GivesMoments clock clock' [] run
  pub paces : KeepsPaceOf k run pace

-- A terminal event came after the run, before anything was accepted, and is not part of it. The
-- moments of the run stand where they should. With that event they are those that the clock gave
-- since `before`.
pub record StopsAfter {I M B R : Type 0} (k : Kind I M B R) (members : Option (List Member))
    (clock clock' : Option (List (Option ℤ))) (before : List (SessionEvent I)) (end : Terminal) :
    Type 0 where
  pub run : List (SessionEvent I)
  pub event : SessionEvent I
  pub ends : EndsRun k members run event end
  pub answers : (is_moment event || does_answer (k.ask (reverse run)) event) ≡ true
  pub timed : IsTimedOf k (reverse run)
  pub unsynced : has_synced k.subject (reverse run) ≡ false
  pub clock_is : GivesMoments clock clock' before (run ++ event ∷ [])

-- such an event came, or memory ran out
abbrev pub StopsAt : {I M B R : Type 0} → Kind I M B R → Option (List Member)
    → Option (List (Option ℤ)) → Option (List (Option ℤ)) → List (SessionEvent I) → Stop → Type 0
StopsAt k members clock clock' before (stops.Terminal end) =
    StopsAfter k members clock clock' before end
StopsAt k members clock clock' before stops.OutOfMemory = Unit {0}

-- A terminal event came before anything was accepted, by a deadline of the timeout; or memory ran
-- out. The kind of session is known by its deadline.
pub record StopsOpening {I M B R : Type 0} (kind : Option ℤ → Kind I M B R)
    (timeout : Option Duration) (members : Option (List Member))
    (clock clock' : Option (List (Option ℤ))) (stop : Stop) : Type 0 where
  pub deadline : Option ℤ
  pub counts : HasDeadline timeout deadline
  pub stops : StopsAt (kind deadline) members clock clock' [] stop

-- What an initial synchronisation meets: whether its endpoint is valid, what its connector has to
-- yield, and the moments of its clock before it and after it, where these are known.
pub record Meeting : Type 0 where
  pub valid : Result (Unit {0}) EndpointError
  pub members : Option (List Member)
  pub clock : Option (List (Option ℤ))
  pub clock_after : Option (List (Option ℤ))

abbrev pub meeting : Result (Unit {0}) EndpointError → Option (List Member)
    → Option (List (Option ℤ)) → Option (List (Option ℤ)) → Meeting
meeting valid members clock clock' =
    record { valid = valid; members = members; clock = clock; clock_after = clock' }
