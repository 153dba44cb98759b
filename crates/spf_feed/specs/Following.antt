-- Following a session: reading an event, taking its turn, its line, and how it ends.
use Rattle.std.specs.Prelude.{◌≡◌, ℕ, ◌+◌, ℤ, ◌≤◌, Bool, true, false, IsTrue, List, [], Option}
use Rattle.std.specs.Prelude.{None, Some, Result, Ok, Err, IfErr}
use Rattle.std.specs.Io.KnownBytes.{Consumes, IsAtEnd}
use Rattle.spf_io.specs.Outside.{Rose}
use Rattle.spf_view.specs.Views.{Waiting}
use Rattle.spf_view.specs.Standing.{Kept}
use Rattle.spf_view.specs.Sessions.{Stream, IsFrame, NoFrameAt, Ports, Followed}
use Rattle.spf_feed.specs.declared.follow_error.FollowError.{FollowError}
use Rattle.spf_feed.specs.declared.follow_error.FollowError.TheVariants as follow_errors
use Rattle.spf_frame.specs.declared.error.FrameError.{FrameError}
use Rattle.spf_frame.specs.declared.error.FrameError.TheVariants as errors
use Rattle.spf_feed.specs.declared.following.Change.{Change}
use Rattle.spf_feed.specs.declared.limits.ResourceLimits.{ResourceLimits}
use Rattle.spf_feed.specs.declared.record.MetricsRecord.{MetricsRecord}
use Rattle.spf_feed.specs.declared.record.MetricsRecord.TheVariants as records
use Rattle.spf_feed.specs.declared.step.Denial.{Denial}
use Rattle.spf_feed.specs.declared.turn.Terminal.{Terminal}
use Rattle.spf_feed.specs.declared.turn.Terminal.TheVariants as ends
use Rattle.spf_feed.specs.declared.turn.Turn.{Turn}
use Rattle.spf_feed.specs.declared.turn.Turn.TheVariants as turns
use Rattle.spf_feed.specs.Events.{map_item}
use Rattle.spf_feed.specs.declared.event.SessionEvent.{SessionEvent}
use Rattle.spf_feed.specs.Items.{Rules}
use Rattle.spf_feed.specs.Numbered.{LineView, ShowsKept}
use Rattle.spf_feed.specs.Shown.{shown_text}
use Rattle.spf_feed.specs.Frames.{Unread}
pub use Rattle.spf_feed.specs.Handing.{HandsOn, is_changed}
use Rattle.spf_feed.specs.Handing as handing
use Rattle.spf_feed.specs.Run.{stream, outputs, end_for}
use Rattle.spf_feed.specs.Steps.{Material, PlainStep, Accept, Deny, same_material}
use Rattle.spf_feed.specs.Turns.{listed}

-- the error that an event ends a session with
abbrev pub answer_to : Terminal → FollowError
answer_to (ends.Source e) = follow_errors.Source e
answer_to (ends.UnsupportedRpc e) = follow_errors.UnsupportedRpc e
answer_to ends.InitialSyncTimeout = follow_errors.InitialSyncTimeout
answer_to ends.Closed = follow_errors.Closed

-- whether an error is a fault of the source or the sink
abbrev pub is_failure : FollowError → Bool
is_failure follow_errors.ReadFault = true
is_failure follow_errors.WriteFault = true
is_failure _ = false

-- how many reads and writes failed so far
pub record FailureCounts : Type 0 where
  pub reads : ℕ
  pub writes : ℕ

-- the counts never fall, and a fault comes only where its count rose
pub record FailuresHaveCauses (old new : FailureCounts) (r : Result ℕ FollowError) : Type 0 where
  pub reads_later : old.reads ≤ new.reads
  pub writes_later : old.writes ≤ new.writes
  pub read : r ≡ Err follow_errors.ReadFault → Rose old.reads new.reads
  pub write : r ≡ Err follow_errors.WriteFault → Rose old.writes new.writes

-- ---- reading an event

-- the event that was read, after a history, as it is received: its item is read further by `f`
pub record IsEventRead {I J T : Type 0} (f : I → J) (s : Stream (SessionEvent I) T)
    (past : List (SessionEvent I)) (allowed : Bool) (old new : Option (List ℕ))
    (received : SessionEvent J) : Type 0 where
  pub leave : IsTrue allowed
  pub event : SessionEvent I
  pub front : List ℕ
  pub frame : IsFrame s past front event
  pub taken : Consumes old new front
  pub is : received ≡ map_item f event

-- why no event was read, and what was taken
abbrev pub IsEventUnread : {E T : Type 0} → Stream E T → List E → Bool → Option (List ℕ)
    → Option (List ℕ) → FrameError → Type 0
IsEventUnread s past = Unread (s.allows past) (NoFrameAt s past)

-- the error that a session ends with, where no event was read after `count` of them
abbrev pub error_at : ℕ → FrameError → FollowError
error_at count errors.TooLong = follow_errors.SessionTooLong
error_at count errors.BadFrame = follow_errors.BadFrame (count + 1)
error_at count errors.ReadFault = follow_errors.ReadFault
error_at count errors.OutOfMemory = follow_errors.OutOfMemory

-- what a call that reads an event returns and takes
abbrev pub EventRead : {I J T : Type 0} → (I → J) → Stream (SessionEvent I) T
    → List (SessionEvent I) → Bool → Option (List ℕ) → Option (List ℕ)
    → Result (Option (SessionEvent J)) FrameError → Type 0
EventRead f s past allowed old new (Ok None) = Consumes old new [] × IsAtEnd old
EventRead f s past allowed old new (Ok (Some received)) =
    IsEventRead f s past allowed old new received
EventRead f s past allowed old new (Err e) = IsEventUnread s past allowed old new e

-- an event is read, or a bad frame is reported, only where a frame is allowed
abbrev pub OnlyAllowed : {X : Type 0} → Bool → Result (Option X) FrameError → Type 0
OnlyAllowed allowed (Ok None) = Unit {0}
OnlyAllowed allowed (Ok (Some x)) = IsTrue allowed
OnlyAllowed allowed (Err errors.TooLong) = Unit {0}
OnlyAllowed allowed (Err errors.BadFrame) = IsTrue allowed
OnlyAllowed allowed (Err errors.ReadFault) = Unit {0}
OnlyAllowed allowed (Err errors.OutOfMemory) = Unit {0}

-- ---- handing on

-- what a step does to what is kept, where anything is
abbrev pub change_of : Option (Kept Material Denial) → PlainStep → Change
change_of = handing.change_of same_material

-- an update is recorded where something was visible before it and something else is now
abbrev pub update_of : Change → List MetricsRecord
update_of = handing.update_of records.Update

-- whether something else is visible after a step, where there is one
abbrev pub changes_any : Option (Kept Material Denial) → Option PlainStep → Bool
changes_any = handing.changes_any same_material

-- what a turn may change
abbrev pub TurnState : Type 0
TurnState = handing.TurnState Material ResourceLimits Denial MetricsRecord

-- a turn with this step, where it has one, and these records went through
abbrev pub WentThrough : Option PlainStep → List MetricsRecord → TurnState → TurnState → Bool
    → Type 0
WentThrough = handing.WentThrough same_material

-- memory ran out over it
abbrev pub StoppedShort : Option PlainStep → List MetricsRecord → TurnState → TurnState → Type 0
StoppedShort = handing.StoppedShort

abbrev pub IsTaken : {E : Type 0} → Option PlainStep → List MetricsRecord → TurnState → TurnState
    → Result Bool E → Type 0
IsTaken = handing.IsTaken same_material

-- an error says that memory ran out
abbrev pub IsMemory : {T : Type 0} → Result T FollowError → Type 0
IsMemory r = IfErr r (λ e. e ≡ follow_errors.OutOfMemory)

-- an accepted context with its choice and limits is taken,
-- and an update is recorded where something else is visible
abbrev pub IsAccepted : PlainStep → TurnState → TurnState → Result Bool FollowError → Type 0
IsAccepted step old new r =
    IsMemory r × IsTaken (Some step) (update_of (change_of old.kept step)) old new r

-- What a turn does: a terminal one ends the session, and hands on nothing.
abbrev pub TurnTaken : ResourceLimits → Turn → TurnState → TurnState → Result Bool FollowError
    → Type 0
TurnTaken limits (turns.Terminal end) old new r =
    (r ≡ Err (answer_to end)) × (new.steps ≡ old.steps) × (new.records ≡ old.records)
TurnTaken limits (turns.Accepted context choice) old new r =
    IsAccepted (Accept (record { context = context; choice = choice }) limits) old new r
TurnTaken limits (turns.Denied reason list) old new r =
    IsMemory r × IsTaken (Some (Deny reason)) (listed list) old new r
TurnTaken limits (turns.Passed list) old new r = IsMemory r × IsTaken None (listed list) old new r

-- ---- the line

-- the line before anything is accepted, or of what is kept
abbrev pub IsLineOf : LineView → Option (Kept Material Denial) → Option ℤ → Type 0
IsLineOf line None now = line.text ≡ shown_text Waiting 0 None
IsLineOf line (Some kept) now = ShowsKept kept now line

-- the line stays where nothing is kept; otherwise the new line shows what is kept, where that
-- changed or the old line showed it
abbrev pub IsShownAfter : LineView → LineView → Option (Kept Material Denial) → Bool → Option ℤ
    → Type 0
IsShownAfter old new None changed now = new ≡ old
IsShownAfter old new (Some kept) changed now = (before : Option ℤ)
    → (changed ≡ false → ShowsKept kept before old) → ShowsKept kept now new

-- ---- a whole session

-- what is read, put, published, recorded and returned belongs to one list of events
abbrev pub FollowedBy : Rules → ℕ → Ports PlainStep MetricsRecord → Ports PlainStep MetricsRecord
    → Result ℕ FollowError → Type 0
FollowedBy rules max_frames old new r =
    Followed (stream rules) (outputs rules) max_frames old new (end_for r)
