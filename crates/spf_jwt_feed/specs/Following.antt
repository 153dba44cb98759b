-- What the events of a session hand on, and its line.
use Rattle.std.specs.Prelude.{◌≡◌, Bool, ℕ, List, Option, None, Some, Result, Err, if◌then◌else◌}
use Rattle.spf_view.specs.Views.{Waiting}
use Rattle.spf_view.specs.Standing.{Kept}
use Rattle.spf_view.specs.Steps.{Accept, Deny}
use Rattle.spf_jwt.specs.Bundle.{set_eq}
use Rattle.spf_jwt.specs.declared.limits.JwtResourceLimits.{JwtResourceLimits}
use Rattle.spf_feed.specs.declared.follow_error.FollowError.{FollowError}
use Rattle.spf_feed.specs.declared.following.Change.{Change}
use Rattle.spf_feed.specs.declared.step.Denial.{Denial}
use Rattle.spf_feed.specs.Following.{answer_to, IsMemory}
use Rattle.spf_feed.specs.Handing as handing
use Rattle.spf_jwt_feed.specs.declared.record.JwtMetricsRecord.{JwtMetricsRecord}
use Rattle.spf_jwt_feed.specs.declared.record.JwtMetricsRecord.TheVariants as records
use Rattle.spf_jwt_feed.specs.declared.turn.Turn.{Turn}
use Rattle.spf_jwt_feed.specs.declared.turn.Turn.TheVariants as turns
use Rattle.spf_jwt_feed.specs.Shown.{shown_text}
use Rattle.spf_jwt_feed.specs.Steps.{BundleSet, PlainStep}
use Rattle.spf_jwt_feed.specs.Turns.{listed}

-- ---- handing on

-- what a step does to what is kept, where anything is
abbrev pub change_of : Option (Kept BundleSet Denial) → PlainStep → Change
change_of = handing.change_of set_eq

-- an update is recorded where something was visible before it and something else is now
abbrev pub update_of : Change → List JwtMetricsRecord
update_of = handing.update_of records.Update

-- whether something else is visible after a step, where there is one
abbrev pub changes_any : Option (Kept BundleSet Denial) → Option PlainStep → Bool
changes_any = handing.changes_any set_eq

-- what a turn may change
abbrev pub TurnState : Type 0
TurnState = handing.TurnState BundleSet JwtResourceLimits Denial JwtMetricsRecord

-- a turn with this step, where it has one, and these records went through
abbrev pub WentThrough : Option PlainStep → List JwtMetricsRecord → TurnState → TurnState → Bool
    → Type 0
WentThrough = handing.WentThrough set_eq

-- memory ran out over it
abbrev pub StoppedShort : Option PlainStep → List JwtMetricsRecord → TurnState → TurnState → Type 0
StoppedShort = handing.StoppedShort

abbrev pub IsTaken : {E : Type 0} → Option PlainStep → List JwtMetricsRecord → TurnState → TurnState
    → Result Bool E → Type 0
IsTaken = handing.IsTaken set_eq

-- an accepted bundle set with its limits is taken, and
-- an update is recorded where something else is visible
abbrev pub IsAccepted : PlainStep → TurnState → TurnState → Result Bool FollowError → Type 0
IsAccepted step old new r =
    IsMemory r × IsTaken (Some step) (update_of (change_of old.kept step)) old new r

-- What a turn does: a terminal one ends the session, and hands on nothing.
abbrev pub TurnTaken : JwtResourceLimits → Turn → TurnState → TurnState → Result Bool FollowError
    → Type 0
TurnTaken limits (turns.Terminal end) old new r =
    (r ≡ Err (answer_to end)) × (new.steps ≡ old.steps) × (new.records ≡ old.records)
TurnTaken limits (turns.Accepted set) old new r = IsAccepted (Accept set limits) old new r
TurnTaken limits (turns.Denied reason list) old new r =
    IsMemory r × IsTaken (Some (Deny reason)) (listed list) old new r
TurnTaken limits (turns.Passed list) old new r = IsMemory r × IsTaken None (listed list) old new r

-- ---- the line

-- the line before anything is accepted, or of what is kept
abbrev pub IsLineOf : List ℕ → Option (Kept BundleSet Denial) → Type 0
IsLineOf line None = line ≡ shown_text Waiting 0
IsLineOf line (Some kept) = line ≡ shown_text kept.view kept.revision

-- a line is written anew where what is kept changed
abbrev pub IsShownAfter : List ℕ → List ℕ → Option (Kept BundleSet Denial) → Bool → Type 0
IsShownAfter old new None changed = new ≡ old
IsShownAfter old new (Some kept) changed =
    new ≡ (if changed then shown_text kept.view kept.revision else old)
