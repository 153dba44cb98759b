-- A feeder: a connector and its link, and the run of what they yield.
use Rattle.std.specs.Prelude.{◌≡◌, true, false, List, ◌∷◌, [], ◌++◌, reverse, Option, None}
use Rattle.std.specs.Prelude.{Some, Result, Ok, Err, ◌⊎◌, IfSome}
use Rattle.spf_io.specs.declared.memory.OutOfMemory.{OutOfMemory}
use Rattle.spf_api.specs.declared.response.ResponseKind.{ResponseKind}
use Rattle.spf_link.specs.Connecting.{Member}
use Rattle.spf_link.specs.declared.answer.Answer.{Answer}
use Rattle.spf_link.specs.declared.connector.Connector as connectors
use Rattle.spf_link.specs.declared.link.Link as links
use Rattle.spf_system.specs.declared.pacer.AttemptEnd.{AttemptEnd}
use Rattle.spf_feed.specs.declared.event.SessionEvent.{SessionEvent}
use Rattle.spf_feed.specs.declared.phase.Phase.{Phase}
use Rattle.spf_feed.specs.declared.phase.Phase.TheVariants as phases
use Rattle.spf_feed.specs.declared.turn.Terminal.{Terminal}
use Rattle.spf_feeder.specs.declared.session.Stop.{Stop}
use Rattle.spf_feeder.specs.declared.session.Stop.TheVariants as stops
use Rattle.spf_feeder.specs.Asking.{Asked, AsksOnceFor, kind_wanted}
use Rattle.spf_feeder.specs.Coming.{AllYieldedOf, Coming, Holds, left_of}
use Rattle.spf_feeder.specs.Kept.{Advanced, Progress}
use Rattle.spf_feeder.specs.Kinds.{Kind}
use Rattle.spf_feeder.specs.Orderly.{IsOrderlyOf, does_answer}

-- What contracts see of a feeder, where C is the core.
pub record FedOf (S L C : Type 0) : Type 0 where
  -- the connector and its link
  pub asked : Asked S L
  pub core : C
  -- the connector as it was handed in
  pub first : S

abbrev pub fed : {S L C : Type 0} → S → Option L → C → S → FedOf S L C
fed connector link core first = record {
  asked = record { connector = connector; link = link };
  core = core;
  first = first;
}

-- the same with another core
abbrev pub with_core : {S L C D : Type 0} → (C → D) → FedOf S L C → FedOf S L D
with_core core f = record { asked = f.asked; core = core f.core; first = f.first }

-- where the link is asked next there is one, and its responses are of the wanted kind
abbrev pub IsReadyFor : {L : Type 0} → ResponseKind → (L → Option ResponseKind) → Phase → Option L
    → Type 0
IsReadyFor kind kind_of phases.Client link = Unit {0}
IsReadyFor kind kind_of ask None = ⊥
IsReadyFor kind kind_of phases.Connect (Some link) = Unit {0}
IsReadyFor kind kind_of phases.Next (Some link) = kind_of link ≡ Some kind

-- The events other than moments are what the asks, in order, take of what the connector had to
-- yield when it was handed in, as `All` says, and the connector and its link have the rest.
pub record YieldsBy {S L I : Type 0} (All : List Member → List (SessionEvent I) → Type 0)
    (left : List Member → List (SessionEvent I) → Coming) (members : S → Option (List Member))
    (answers : L → Option (List Answer)) (run : List (SessionEvent I)) (asked : Asked S L)
    (first : List Member) : Type 0 where
  pub yielded : All first (reverse run)
  pub rest : Holds members answers (left first (reverse run)) asked.connector asked.link

-- the same of a session of some kind
abbrev pub YieldsOf : {S L I M B R : Type 0} → Kind I M B R → (S → Option (List Member))
    → (L → Option (List Answer)) → List (SessionEvent I) → Asked S L → List Member → Type 0
YieldsOf k members answers run asked first =
    YieldsBy (AllYieldedOf k) (left_of k) members answers run asked first

-- The events are what the asks take of the connector as it was handed in. While the session goes
-- on, its link may be asked for what comes next, and the rest is still to come.
pub record IsFed {S L I M B R N : Type 0} (k : Kind I M B R) (connector : connectors.Ghosts S L)
    (link : links.Ghosts L) (progress : Progress N I) (asked : Asked S L) (first : S) :
    Type 0 where
  pub ready : progress.stuck ≡ false → IsReadyFor (kind_wanted k.wanted) link.kind
      (k.ask (reverse progress.run)) asked.link
  pub yields : progress.stuck ≡ false → IfSome (connector.members first)
      (YieldsOf k connector.members link.answers progress.run asked)
  pub yielded : IfSome (connector.members first)
      (λ members. AllYieldedOf k members (reverse progress.run))

-- A turn that went through: one ask, one more event, which is published before the next turn.
pub record TurnedOnce {S L I M B R N : Type 0} (k : Kind I M B R)
    (connector : connectors.Ghosts S L) (link : links.Ghosts L) (records : N → Option (List R))
    (old : FedOf S L (Progress N I)) (end : Option AttemptEnd) (new : FedOf S L (Progress N I)) :
    Type 0 where
  pub event : SessionEvent I
  pub asked : AsksOnceFor {E = OutOfMemory} k.wanted connector link (k.ask (reverse old.core.run))
      old.asked (Ok event) new.asked
  pub advanced : Advanced k records old.core event end new.core

-- nothing was asked, and no event was added
pub record IsIdle {S L I N : Type 0} (old new : FedOf S L (Progress N I)) : Type 0 where
  pub asked : new.asked ≡ old.asked
  pub run_is : new.core.run ≡ old.core.run

-- one ask, and at most the event that it yielded
pub record AsksInVain {S L I M B R N : Type 0} (k : Kind I M B R)
    (connector : connectors.Ghosts S L) (link : links.Ghosts L)
    (old new : FedOf S L (Progress N I)) : Type 0 where
  pub answer : Result (SessionEvent I) OutOfMemory
  pub asked : AsksOnceFor k.wanted connector link (k.ask (reverse old.core.run)) old.asked answer
      new.asked
  pub run_is : (new.core.run ≡ old.core.run)
      ⊎ ((e : SessionEvent I) × (answer ≡ Ok e) × (new.core.run ≡ old.core.run ++ e ∷ []))

-- A turn that is refused: at most one ask, and no turn after it asks.
pub record TurnedAway {S L I M B R N : Type 0} (k : Kind I M B R)
    (connector : connectors.Ghosts S L) (link : links.Ghosts L)
    (old new : FedOf S L (Progress N I)) : Type 0 where
  pub how : IsIdle old new ⊎ AsksInVain k connector link old new
  pub stuck_is : new.core.stuck ≡ true
  pub idle : old.core.stuck ≡ true → IsIdle old new

-- what a turn does
abbrev pub TurnsBy : {S L I M B R N E : Type 0} → Kind I M B R → connectors.Ghosts S L
    → links.Ghosts L → (N → Option (List R)) → FedOf S L (Progress N I)
    → Result (Option AttemptEnd) E → FedOf S L (Progress N I) → Type 0
TurnsBy k connector link records old (Ok end) new =
    TurnedOnce k connector link records old end new
TurnsBy k connector link records old (Err e) new = TurnedAway k connector link old new

-- An event that came after the run is terminal, and is not part of it. Where it is not a moment, it
-- is what the ask after the run takes of what the connector had to yield.
pub record EndsRun {I M B R : Type 0} (k : Kind I M B R) (members : Option (List Member))
    (run : List (SessionEvent I)) (event : SessionEvent I) (end : Terminal) : Type 0 where
  pub refused : k.refusal (reverse run) event ≡ Some end
  pub orderly : IsOrderlyOf k (reverse run)
  pub yielded : IfSome members (λ m. AllYieldedOf k m (event ∷ reverse run))

-- that event was terminal, or memory ran out
abbrev pub EndsFor : {I M B R : Type 0} → Kind I M B R → Option (List Member)
    → List (SessionEvent I) → SessionEvent I → Stop → Type 0
EndsFor k members run event (stops.Terminal end) = EndsRun k members run event end
EndsFor k members run event stops.OutOfMemory = Unit {0}

-- the ask after the run yielded a terminal event, or memory ran out
abbrev pub StopsFor : {I M B R : Type 0} → Kind I M B R → Option (List Member)
    → List (SessionEvent I) → Stop → Type 0
StopsFor {I} k members run (stops.Terminal end) =
    (e : SessionEvent I) × (does_answer (k.ask (reverse run)) e ≡ true)
    × EndsRun k members run e end
StopsFor k members run stops.OutOfMemory = Unit {0}
