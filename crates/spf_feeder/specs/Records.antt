-- What a supervisor is given, and what it leaves, whatever its kind. G are its rules, I its items,
-- and X the steps as they are published.
use Rattle.std.specs.Prelude.{◌≡◌, ℕ, List, Option, IfSome, map, reverse}
use Rattle.logbook.specs.Pages.{Book}
use Rattle.spf_system.specs.Marks.{Mark}
use Rattle.spf_system.specs.declared.maker.Maker.TheVariants as makers
use Rattle.spf_board.specs.Past.{Past}
use Rattle.spf_link.specs.Connecting.{Member}
use Rattle.spf_system.specs.declared.reconnect_config.ReconnectConfig.{ReconnectConfig}
use Rattle.spf_system.specs.declared.pace.Pace.{Pace}
use Rattle.spf_board.specs.Lists.{steps_of as board_steps}
use Rattle.spf_view.specs.Steps.{Step, steps_of}
use Rattle.spf_feed.specs.declared.event.SessionEvent.{SessionEvent}
use Rattle.spf_feed.specs.declared.step.Denial.{Denial}
use Rattle.spf_feeder.specs.Coming.{AllYieldedOf}
use Rattle.spf_feeder.specs.Kinds.{Kind}
use Rattle.spf_feeder.specs.Orderly.{GoesOn, IsOrderlyOf, IsSyncedOf}
use Rattle.spf_feeder.specs.Pacing.{KeepsPaceOf}

-- What a supervisor is given: its board, its closed cell, the run of the initial synchronisation,
-- the rules, the bounds of its pauses, and the connector as it was handed in.
pub record AssignedOf (S G I : Type 0) : Type 0 where
  pub board : Book
  pub cell : ℕ
  pub run : List (SessionEvent I)
  pub rules : G
  pub bounds : ReconnectConfig
  pub first : S

abbrev pub assigned : {S G I : Type 0} → Book → ℕ → List (SessionEvent I) → G → ReconnectConfig → S
    → AssignedOf S G I
assigned board cell run rules bounds first = record {
  board = board;
  cell = cell;
  run = run;
  rules = rules;
  bounds = bounds;
  first = first;
}

-- the same, its connector aside
abbrev pub task_of : {S G I : Type 0} → AssignedOf S G I → AssignedOf (Unit {0}) G I
task_of job = assigned job.board job.cell job.run job.rules job.bounds tt

-- what contracts see of a supervisor's record
pub record RecordedOf (G I X : Type 0) : Type 0 where
  pub run : List (SessionEvent I)
  pub steps : List X
  pub rules : G
  pub pace : Pace
  -- who closed which cell
  pub closed : Mark

abbrev pub recorded_of : {G I X : Type 0} → List (SessionEvent I) → List X → G → Pace → Mark
    → RecordedOf G I X
recorded_of run steps rules pace closed = record {
  run = run;
  steps = steps;
  rules = rules;
  pace = pace;
  closed = closed;
}

-- What each record keeps: its events answer their asks, none of them is terminal, one is accepted,
-- its moments stand where they should, its steps are exactly those of its events, and its delays
-- are those of its events.
pub record IsRecordBy {G I X M B R : Type 0} (plain : X → Step M B Denial) (kind : G → Kind I M B R)
    (r : RecordedOf G I X) : Type 0 where
  pub orderly : IsOrderlyOf (kind r.rules) (reverse r.run)
  pub synced : IsSyncedOf (kind r.rules) (reverse r.run)
  pub steps_are : map plain r.steps ≡ steps_of (kind r.rules).subject r.run
  pub paces : KeepsPaceOf (kind r.rules) r.run r.pace
  pub maker : r.closed.maker ≡ makers.Caller

-- A record of what a supervisor was given: its events begin with those of the initial
-- synchronisation and have no more moments, its rules and bounds are those given, the events that
-- are not moments are what the connector had to yield, where that is known, and its cell was
-- closed.
pub record IsOfBy {S G I X M B R : Type 0} (members : S → Option (List Member))
    (kind : G → Kind I M B R) (job : AssignedOf S G I) (r : RecordedOf G I X) : Type 0 where
  pub goes_on : GoesOn job.run r.run
  pub rules : r.rules ≡ job.rules
  pub bounds : r.pace.bounds ≡ job.bounds
  pub yielded : IfSome (members job.first)
      (λ m. AllYieldedOf (kind r.rules) m (reverse r.run))
  pub cell : r.closed.cell ≡ job.cell

-- what a supervisor leaves: what it has published, and its record, where memory did not run out
pub record LeftOf (G I X P : Type 0) : Type 0 where
  pub past : Past P
  pub recorded : Option (RecordedOf G I X)

abbrev pub left_of : {G I X P : Type 0} → Past P → Option (RecordedOf G I X) → LeftOf G I X P
left_of past recorded = record { past = past; recorded = recorded }

-- The steps of a run are what was published. A step is `plain` without its sharing, and `shown` as
-- it stands on a board.
pub record IsPublishedBy {I X P M B R : Type 0} (plain : X → Step M B Denial) (shown : X → P)
    (k : Kind I M B R) (run : List (SessionEvent I)) (published : List P) : Type 0 where
  pub steps : List X
  pub steps_are : map plain steps ≡ steps_of k.subject run
  pub published_are : map shown steps ≡ published

-- What a supervisor went through, also where memory ran out: its events go on from those of the
-- initial synchronisation and have no more moments, they answer their asks and are what the
-- connector had to yield, where that is known, and their steps are what it published.
pub record WentThroughBy {S G I X P M B R : Type 0} (members : S → Option (List Member))
    (kind : G → Kind I M B R) (plain : X → Step M B Denial) (shown : X → P)
    (job : AssignedOf S G I) (published : List P) : Type 0 where
  pub run : List (SessionEvent I)
  pub goes_on : GoesOn job.run run
  pub orderly : IsOrderlyOf (kind job.rules) (reverse run)
  pub yielded : IfSome (members job.first) (λ m. AllYieldedOf (kind job.rules) m (reverse run))
  pub published_is : IsPublishedBy plain shown (kind job.rules) run published

pub record IsLeftByOf {S G I X P M B R : Type 0} (members : S → Option (List Member))
    (kind : G → Kind I M B R) (plain : X → Step M B Denial) (shown : X → P)
    (job : AssignedOf S G I) (done : LeftOf G I X P) : Type 0 where
  pub board : done.past.book ≡ job.board
  pub went : WentThroughBy members kind plain shown job (board_steps done.past.list)
  pub record_is : IfSome done.recorded (IsOfBy members kind job)
