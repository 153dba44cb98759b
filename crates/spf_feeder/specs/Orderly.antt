-- What the events of a feeder are: each is what the ask before it yields, or a moment, and none is
-- terminal. What is asked next after a history is `ask`, and how an event ends it `refusal`.
use Rattle.std.specs.Prelude.{◌≡◌, Bool, true, false, not, ◌||◌, ◌&&◌, if◌then◌else◌, List, [], ◌∷◌}
use Rattle.std.specs.Prelude.{◌++◌, Option, None, Some, IsTrue, reverse}
use Rattle.spf_view.specs.Steps.{Accept, steps_of}
use Rattle.spf_view.specs.Views.{Subject, has_synced}
use Rattle.spf_feed.specs.declared.event.SessionEvent.{SessionEvent}
use Rattle.spf_feed.specs.declared.event.SessionEvent.TheVariants as events
use Rattle.spf_feed.specs.declared.phase.Phase.{Phase}
use Rattle.spf_feed.specs.declared.phase.Phase.TheVariants as phases
use Rattle.spf_feed.specs.Items.{Event, Rules}
use Rattle.spf_feed.specs.Steps.{MayFollow, PlainStep}
use Rattle.spf_feeder.specs.Asking.{is_client}
use Rattle.spf_feeder.specs.Kinds.{Kind, x509}

abbrev pub is_moment : {I : Type 0} → SessionEvent I → Bool
is_moment (events.Moment m) = true
is_moment _ = false

abbrev pub is_item : {I : Type 0} → SessionEvent I → Bool
is_item (events.Item i) = true
is_item _ = false

-- whether an event is one that the ask yields
abbrev pub does_answer : {I : Type 0} → Phase → SessionEvent I → Bool
does_answer phases.Client events.ClientMade = true
does_answer phases.Client (events.ClientFailed f) = true
does_answer phases.Connect events.Connected = true
does_answer phases.Connect (events.ConnectStatus s) = true
does_answer phases.Next (events.Item i) = true
does_answer phases.Next (events.ItemStatus s) = true
does_answer phases.Next events.StreamEnd = true
does_answer _ _ = false

-- an event that is allowed after a history
pub record MayStand {I A : Type 0} (ask : List (SessionEvent I) → Phase)
    (refusal : List (SessionEvent I) → SessionEvent I → Option A) (past : List (SessionEvent I))
    (e : SessionEvent I) : Type 0 where
  pub fits : (is_moment e || does_answer (ask past) e) ≡ true
  pub unrefused : refusal past e ≡ None

-- the newest first
abbrev pub AreOrderly : {I A : Type 0} → (List (SessionEvent I) → Phase)
    → (List (SessionEvent I) → SessionEvent I → Option A) → List (SessionEvent I) → Type 0
AreOrderly ask refusal [] = Unit {0}
AreOrderly ask refusal (e ∷ past) = MayStand ask refusal past e × AreOrderly ask refusal past

-- whether one of these is a moment
abbrev pub has_moment : {I : Type 0} → List (SessionEvent I) → Bool
has_moment [] = false
has_moment (e ∷ run) = is_moment e || has_moment run

-- A run goes on without a moment.
pub record GoesOn {I : Type 0} (old new : List (SessionEvent I)) : Type 0 where
  pub later : List (SessionEvent I)
  pub run_is : new ≡ old ++ later
  pub timeless : has_moment later ≡ false

-- one more event, which the ask before it yielded
pub record AddsAnswerTo {I : Type 0} (ask : List (SessionEvent I) → Phase)
    (old new : List (SessionEvent I)) : Type 0 where
  pub event : SessionEvent I
  pub answers : does_answer (ask (reverse old)) event ≡ true
  pub run_is : new ≡ old ++ event ∷ []

-- ---- the moments of an initial synchronisation

abbrev pub ends_with_moment : {I : Type 0} → List (SessionEvent I) → Bool
ends_with_moment [] = false
ends_with_moment (e ∷ past) = is_moment e

-- whether an event is about a client
abbrev pub is_of_client : {I : Type 0} → SessionEvent I → Bool
is_of_client events.ClientMade = true
is_of_client (events.ClientFailed f) = true
is_of_client _ = false

-- Until something is accepted one moment stands right before each client made and each client
-- failed, and no moment stands elsewhere: here of an event, by whether the last event before it is
-- a moment, and whether something is accepted.
abbrev pub is_timed : {I : Type 0} → Bool → Bool → SessionEvent I → Bool
is_timed ends synced (events.Moment m) = not (ends || synced)
is_timed ends synced e = if is_of_client e && not synced then ends else not ends

-- the newest first
abbrev pub AreTimed : {I M L D : Type 0} → Subject (SessionEvent I) M L D → List (SessionEvent I)
    → Type 0
AreTimed s [] = Unit {0}
AreTimed s (e ∷ past) =
    (is_timed (ends_with_moment past) (has_synced s past) e ≡ true) × AreTimed s past

-- ---- of a session of some kind

unfoldable pub IsOrderlyOf : {I M B R : Type 0} → Kind I M B R → List (SessionEvent I) → Type 0
IsOrderlyOf k past = AreOrderly k.ask k.refusal past

unfoldable pub IsTimedOf : {I M B R : Type 0} → Kind I M B R → List (SessionEvent I) → Type 0
IsTimedOf k past = AreTimed k.subject past

-- nothing is accepted yet, and the moments so far stand where they should: the last event is one
-- only where a client is asked for next
pub record IsOpening {I M B R : Type 0} (k : Kind I M B R) (run : List (SessionEvent I)) :
    Type 0 where
  pub timed : IsTimedOf k (reverse run)
  pub unsynced : has_synced k.subject (reverse run) ≡ false
  pub ends : ends_with_moment (reverse run) ≡ true → is_client (k.ask (reverse run)) ≡ true

-- the same, where the last event is a moment exactly if a client is asked for next
pub record IsAboutToAsk {I M B R : Type 0} (k : Kind I M B R) (run : List (SessionEvent I)) :
    Type 0 where
  pub timed : IsTimedOf k (reverse run)
  pub unsynced : has_synced k.subject (reverse run) ≡ false
  pub ends : ends_with_moment (reverse run) ≡ is_client (k.ask (reverse run))

-- something is accepted, and the moments before it stand where they should; the newest first
pub record IsSyncedOf {I M B R : Type 0} (k : Kind I M B R) (past : List (SessionEvent I)) :
    Type 0 where
  pub timed : IsTimedOf k past
  pub synced : has_synced k.subject past ≡ true

-- there is exactly one step, which accepts something within the limits
abbrev pub IsFirstStep : {I M B R : Type 0} → Kind I M B R → List (SessionEvent I) → Type 0
IsFirstStep {M = M} k run =
    (m : M) × (steps_of k.subject run ≡ Accept m k.subject.limits ∷ [])
    × IsTrue (k.subject.is_within k.subject.limits m)

-- ---- of an X.509 session

abbrev pub IsOrderly : Rules → List Event → Type 0
IsOrderly rules past = IsOrderlyOf (x509 rules) past

abbrev pub IsTimed : Rules → List Event → Type 0
IsTimed rules past = IsTimedOf (x509 rules) past

abbrev pub IsSynced : Rules → List Event → Type 0
IsSynced rules past = IsSyncedOf (x509 rules) past

-- there is exactly one step, which may be the first of all
abbrev pub IsOneStep : List PlainStep → Type 0
IsOneStep steps = (step : PlainStep) × (steps ≡ step ∷ []) × MayFollow (Some []) step
