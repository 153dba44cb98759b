-- The delays of a run: the pauses after its attempts, by the random words that were drawn.
use Rattle.std.specs.Prelude.{◌≡◌, ℕ, Bool, not, ◌&&◌, List, [], ◌∷◌, reverse, Result, Ok, Err}
use Rattle.std.specs.Prelude.{◌⊎◌, ◌++◌}
use Rattle.spf_system.specs.declared.pace.Pace.{Pace}
use Rattle.spf_system.specs.Delays.{PaceStep}
use Rattle.spf_system.specs.Pacing.{Paces, paced_by}
use Rattle.spf_view.specs.Views.{Subject, has_synced, outcome}
use Rattle.spf_feed.specs.declared.event.SessionEvent.{SessionEvent}
use Rattle.spf_feed.specs.declared.phase.Phase.{Phase}
use Rattle.spf_feed.specs.Items.{Event, Rules}
use Rattle.spf_feeder.specs.Attempts.{attempt_end_by, is_accepted}
use Rattle.spf_feeder.specs.Kinds.{Kind, x509}

-- the first accepted item
abbrev pub opens_by : {E M L D : Type 0} → Subject E M L D → List E → E → Bool
opens_by s past e = is_accepted (outcome s e past) && not (has_synced s past)

-- how a run paces, by its words; both have the newest first
abbrev pub pace_steps : {I M L D : Type 0} → Subject (SessionEvent I) M L D
    → (List (SessionEvent I) → Phase) → List (SessionEvent I) → List ℕ → List PaceStep
pace_steps s ask [] words = []
pace_steps s ask (e ∷ past) words =
    paced_by (has_synced s past) (opens_by s past e) (attempt_end_by s ask past e)
    (pace_steps s ask past) words

-- a pace stands where the run puts it, and its delays are those of the run
abbrev pub KeepsPaceBy : {I M L D : Type 0} → Subject (SessionEvent I) M L D
    → (List (SessionEvent I) → Phase) → List (SessionEvent I) → Pace → Type 0
KeepsPaceBy s ask run pace = Paces (pace_steps s ask (reverse run)) pace

-- ---- of a session of some kind

unfoldable pub KeepsPaceOf : {I M B R : Type 0} → Kind I M B R → List (SessionEvent I) → Pace
    → Type 0
KeepsPaceOf k run pace = KeepsPaceBy k.subject k.ask run pace

-- After a refused ask the delays are those of the run, or of the run before its last event.
pub record Halted {I M B R : Type 0} (k : Kind I M B R) (run : List (SessionEvent I))
    (pace : Pace) : Type 0 where
  pub before : List (SessionEvent I)
  pub keeps : KeepsPaceOf k before pace
  pub run_is : (run ≡ before) ⊎ ((e : SessionEvent I) × (run ≡ before ++ e ∷ []))

-- where an ask and the pause after it leave the delays
abbrev pub PacesOn : {I M B R T E : Type 0} → Kind I M B R → List (SessionEvent I) → Pace
    → Result T E → List (SessionEvent I) → Pace → Type 0
PacesOn k run pace (Ok done) run' pace' = KeepsPaceOf k run pace → KeepsPaceOf k run' pace'
PacesOn k run pace (Err e) run' pace' = KeepsPaceOf k run pace → Halted k run' pace'

-- ---- of an X.509 session

abbrev pub KeepsPace : Rules → List Event → Pace → Type 0
KeepsPace rules run pace = KeepsPaceOf (x509 rules) run pace
