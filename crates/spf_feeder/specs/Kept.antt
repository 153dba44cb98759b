-- What is kept of a run: its events, oldest first, what it published, and where it stands.
use Rattle.std.specs.Prelude.{◌≡◌, ℕ, ℤ, Bool, true, false, IsTrue, is_some, List, ◌∷◌, [], ◌++◌}
use Rattle.std.specs.Prelude.{reverse, Option, None, Some, Result, Ok, Err, ◌⊎◌, IfSome}
use Rattle.spf_system.specs.declared.pacer.AttemptEnd.{AttemptEnd}
use Rattle.spf_view.specs.Keeping.{IsAt, kept_with_any}
use Rattle.spf_view.specs.Sessions.{Grows}
use Rattle.spf_view.specs.Standing.{Kept}
use Rattle.spf_view.specs.Steps.{Step, Accept, Deny, steps_of}
use Rattle.spf_view.specs.Views.{Subject}
use Rattle.spf_feed.specs.declared.event.SessionEvent.{SessionEvent}
use Rattle.spf_feed.specs.declared.limits.ResourceLimits.{ResourceLimits}
use Rattle.spf_feed.specs.declared.phase.Phase.{Phase}
use Rattle.spf_feed.specs.declared.record.MetricsRecord.{MetricsRecord}
use Rattle.spf_feed.specs.declared.record.MetricsRecord.TheVariants as x509_records
use Rattle.spf_feed.specs.declared.step.Denial.{Denial}
use Rattle.spf_feed.specs.declared.turn.Records.{Records}
use Rattle.spf_feed.specs.declared.turn.Terminal.{Terminal}
use Rattle.spf_feed.specs.declared.turn.Turn.{Turn}
use Rattle.spf_feed.specs.declared.turn.Turn.TheVariants as turns
use Rattle.spf_feed.specs.Handing.{change_of, update_of}
use Rattle.spf_feed.specs.Records.{Appended}
use Rattle.spf_feed.specs.Items.{Event, Rules, subject}
use Rattle.spf_feed.specs.Steps.{HasStep, Material, PlainStep, same_material}
use Rattle.spf_feed.specs.Turns.{listed}
use Rattle.spf_feeder.specs.Attempts.{attempt_end_by, gave_accepted_by}
use Rattle.spf_feeder.specs.Kinds.{Kind, x509}
use Rattle.spf_feeder.specs.declared.session.Stop.{Stop}
use Rattle.spf_feeder.specs.declared.session.Stop.TheVariants as stops

-- a publisher whose steps are known has exactly the steps of the run
abbrev pub PublishedBy : {E M L D : Type 0} → Subject E M L D → Option (List (Step M L D)) → List E
    → Type 0
PublishedBy s steps run = IfSome steps (λ l. l ≡ steps_of s run)

-- How far a run is: its recorder, its events, and whether it takes no more.
pub record Progress (N I : Type 0) : Type 0 where
  pub recorder : N
  pub run : List (SessionEvent I)
  pub stuck : Bool

-- What contracts see of a session by its rules, where P is its publisher and M its recorder.
pub record Core (P M G I : Type 0) : Type 0 where
  pub publisher : P
  pub recorder : M
  pub rules : G
  pub run : List (SessionEvent I)
  -- memory ran out, or a terminal event came: nothing more is taken
  pub stuck : Bool

abbrev pub core_of : {P M G I : Type 0} → P → M → G → List (SessionEvent I) → Bool → Core P M G I
core_of publisher recorder rules run stuck = record {
  publisher = publisher;
  recorder = recorder;
  rules = rules;
  run = run;
  stuck = stuck;
}

abbrev pub progress : {P M G I : Type 0} → Core P M G I → Progress M I
progress core = record { recorder = core.recorder; run = core.run; stuck = core.stuck }

-- what no event changes: the rules, and where the steps are published
pub record Given (G : Type 0) : Type 0 where
  pub rules : G
  pub target : List ℕ

abbrev pub given : {P M G I : Type 0} → (P → List ℕ) → Core P M G I → Given G
given target core = record { rules = core.rules; target = target core.publisher }

-- what is kept in place stands for the events so far
pub record GoingBy {I M B R : Type 0} (k : Kind I M B R) (run : List (SessionEvent I))
    (kept : Option (Kept M Denial)) (now : Option ℤ) (phase : Phase) (gave : Bool) : Type 0 where
  pub at : IsAt k.subject (reverse run) now kept
  pub asks : k.ask (reverse run) ≡ phase
  pub gave_is : gave_accepted_by k.subject (reverse run) ≡ gave

-- One more event went through: its step was published and its records were recorded.
pub record Advanced {I M B R N : Type 0} (k : Kind I M B R) (records : N → Option (List R))
    (old : Progress N I) (e : SessionEvent I) (end : Option AttemptEnd) (new : Progress N I) :
    Type 0 where
  pub run_is : new.run ≡ old.run ++ e ∷ []
  pub goes_on : new.stuck ≡ false
  pub unrefused : k.refusal (reverse old.run) e ≡ None
  pub end_is : end ≡ attempt_end_by k.subject k.ask (reverse old.run) e
  pub records_are : Grows (records old.recorder) (records new.recorder)
      (k.records (reverse old.run) e)

-- The event is terminal, and is not part of the run.
pub record Ended {I M B R N : Type 0} (k : Kind I M B R) (old : Progress N I) (e : SessionEvent I)
    (end : Terminal) (new : Progress N I) : Type 0 where
  pub run_is : new.run ≡ old.run
  pub stuck_is : new.stuck ≡ true
  pub refused : k.refusal (reverse old.run) e ≡ Some end

-- Memory ran out: the event was added to the run, or was not.
pub record Stopped {I N : Type 0} (old : Progress N I) (e : SessionEvent I) (new : Progress N I) :
    Type 0 where
  pub run_is : (new.run ≡ old.run) ⊎ (new.run ≡ old.run ++ e ∷ [])
  pub stuck_is : new.stuck ≡ true

abbrev pub AdvancesBy : {I M B R N : Type 0} → Kind I M B R → (N → Option (List R)) → Progress N I
    → SessionEvent I → Result (Option AttemptEnd) Stop → Progress N I → Type 0
AdvancesBy k records old e (Ok end) new = Advanced k records old e end new
AdvancesBy k records old e (Err (stops.Terminal end)) new = Ended k old e end new
AdvancesBy k records old e (Err stops.OutOfMemory) new = Stopped old e new

-- ---- one turn

-- What a turn does: it is terminal, accepts material, denies, or passes. R are its records.
pub data PlainTurn (M R : Type 0) : Type 0 where
  Terminates : Terminal → PlainTurn M R
  Accepts : M → PlainTurn M R
  Denies : Denial → List R → PlainTurn M R
  Passes : List R → PlainTurn M R

-- the step of a turn, where it has one, is handed to a publisher
abbrev pub StepAppended : {X : Type 0} → Option (List X) → Option (List X) → Option X → Type 0
StepAppended old new None = new ≡ old
StepAppended old new (Some step) = Appended old new step

-- A turn with this step, where it has one, went through, and these are to be recorded.
pub record WentWith {M L R : Type 0} (same : M → M → Bool) (step : Option (Step M L Denial))
    (yielded : List R) (kept : Option (Kept M Denial)) (old : Option (List (Step M L Denial)))
    (records : List R) (kept' : Option (Kept M Denial)) (new : Option (List (Step M L Denial))) :
    Type 0 where
  pub steps_are : StepAppended old new step
  pub kept_is : kept' ≡ kept_with_any same kept step
  pub records_are : records ≡ yielded

-- where `update` is the record of a change
abbrev pub WentBy : {M L R : Type 0} → (M → M → Bool) → R → L → PlainTurn M R
    → Option (Kept M Denial) → Option (List (Step M L Denial)) → List R → Option (Kept M Denial)
    → Option (List (Step M L Denial)) → Type 0
WentBy same update limits (Terminates end) kept old records kept' new = ⊥
WentBy same update limits (Accepts m) kept old records kept' new =
    WentWith same (Some (Accept m limits))
    (update_of update (change_of same kept (Accept m limits))) kept old records kept' new
WentBy same update limits (Denies reason list) kept old records kept' new =
    WentWith same (Some (Deny reason)) list kept old records kept' new
WentBy same update limits (Passes list) kept old records kept' new =
    WentWith same None list kept old records kept' new

-- the step of a turn is published; after a refusal nothing is
abbrev pub PublishesBy : {M L R X : Type 0} → (M → M → Bool) → R → (X → List R) → L
    → PlainTurn M R → Option (Kept M Denial) → Option (List (Step M L Denial)) → Result X Stop
    → Option (Kept M Denial) → Option (List (Step M L Denial)) → Type 0
PublishesBy same update listed limits turn kept old (Ok records) kept' new =
    WentBy same update limits turn kept old (listed records) kept' new
PublishesBy same update listed limits turn kept old (Err (stops.Terminal end)) kept' new =
    (turn ≡ Terminates end) × (new ≡ old)
PublishesBy same update listed limits turn kept old (Err stops.OutOfMemory) kept' new = new ≡ old

abbrev pub accepts_in : {M R : Type 0} → PlainTurn M R → Bool
accepts_in (Accepts m) = true
accepts_in _ = false

-- ---- of an X.509 session

abbrev pub Published : Option (List PlainStep) → Rules → List Event → Type 0
Published steps rules run = PublishedBy (subject rules) steps run

abbrev pub Going : Rules → List Event → Option (List PlainStep) → Option (Kept Material Denial)
    → Option ℤ → Phase → Bool → Type 0
Going rules run steps kept now phase gave =
    GoingBy (x509 rules) run kept now phase gave × (IsTrue (is_some kept) → HasStep steps)

abbrev pub turn_in : Turn → PlainTurn Material MetricsRecord
turn_in (turns.Terminal end) = Terminates end
turn_in (turns.Accepted context choice) = Accepts (record { context = context; choice = choice })
turn_in (turns.Denied reason records) = Denies reason (listed records)
turn_in (turns.Passed records) = Passes (listed records)

abbrev pub PublishesTurn : ResourceLimits → Turn → Option (Kept Material Denial)
    → Option (List PlainStep) → Result Records Stop → Option (Kept Material Denial)
    → Option (List PlainStep) → Type 0
PublishesTurn limits turn kept old r kept' new =
    PublishesBy same_material x509_records.Update listed limits (turn_in turn) kept old r kept' new

abbrev pub accepts : Turn → Bool
accepts turn = accepts_in (turn_in turn)
