-- How a body is followed.
use Rattle.std.specs.Prelude.{◌≡◌, ◌⊎◌, ℕ, ℤ, ◌+◌, ◌≤◌, int_le, Bool, true, false, IsTrue, ◌==◌}
use Rattle.std.specs.Prelude.{List, [], ◌∷◌, ◌++◌}
use Rattle.std.specs.Prelude.{length, Option, None, Some, IfSome, Result, Ok, Err, if◌then◌else◌}
use Rattle.spf_io.specs.Outside.{Rose}
use Rattle.spf_api.specs.declared.response.ContextResponse.{ContextResponse}
use Rattle.spf_view.specs.Sessions.{Grows, GrowsUpTo, IsInOrder, all_of, onto}
use Rattle.spf_view.specs.Views.{has_synced}
use Rattle.spf_feed.specs.declared.follow_error.FollowError.{FollowError}
use Rattle.spf_feed.specs.declared.follow_error.FollowError.TheVariants as follow_errors
use Rattle.spf_feed.specs.declared.record.MetricsRecord.{MetricsRecord}
use Rattle.spf_feed.specs.Items.{Event, Rules, subject}
use Rattle.spf_feed.specs.Run.{stream, outputs}
use Rattle.spf_feed.specs.Steps.{PlainStep}
use Rattle.spf_proto.specs.declared.proto_error.ProtoError.{ProtoError}
use Rattle.spf_proto.specs.declared.proto_error.ProtoError.TheVariants as errors
use Rattle.spf_proto.specs.Body.{body_within}
use Rattle.spf_proto.specs.Translated.{session_of}

-- the moment is at the deadline, or past it
abbrev pub is_due : Option ℤ → ℤ → Bool
is_due None start = false
is_due (Some deadline) start = int_le deadline start

abbrev pub timed_out : Result ℕ ProtoError
timed_out = Err (errors.Follow follow_errors.InitialSyncTimeout)

-- the results that the bytes do not fix
abbrev pub is_free : Result ℕ ProtoError → Bool
is_free (Err (errors.Follow follow_errors.OutOfMemory)) = true
is_free (Err (errors.Follow follow_errors.ReadFault)) = true
is_free (Err (errors.Follow follow_errors.WriteFault)) = true
is_free _ = false

-- the errors of a session with which following a body may end
abbrev pub comes : FollowError → Bool
comes follow_errors.OutOfMemory = true
comes follow_errors.ReadFault = true
comes follow_errors.WriteFault = true
comes follow_errors.InitialSyncTimeout = true
comes follow_errors.NeverSynced = true
comes _ = false

abbrev pub OnlyThese : Result ℕ ProtoError → Type 0
OnlyThese (Err (errors.Follow e)) = IsTrue (comes e)
OnlyThese _ = Unit {0}

-- how often reads and writes failed before and after; a failure comes only where its count rose
pub record HasCauses (reads reads' writes writes' : ℕ) (r : Result ℕ ProtoError) : Type 0 where
  pub reads_later : reads ≤ reads'
  pub writes_later : writes ≤ writes'
  pub read : r ≡ Err (errors.Follow follow_errors.ReadFault) → Rose reads reads'
  pub write : r ≡ Err (errors.Follow follow_errors.WriteFault) → Rose writes writes'

-- The result that a body fixes: its messages, and what follows them.
abbrev pub answer_of : Rules → ℤ → ℕ → List ContextResponse → List ℕ → Result ℕ ProtoError
answer_of rules start max messages rest =
    if length rest == 0
    then (if has_synced (subject rules) (onto [] (session_of rules start messages))
    then Ok (length (session_of rules start messages))
    else Err (errors.Follow follow_errors.NeverSynced))
    else (if length messages == max then Err errors.TooManyMessages
    else Err (errors.BadMessage (length messages + 1)))

-- what the sink, the publisher and the recorder hold at one moment, each where it says so
pub record OutputState : Type 0 where
  pub held : Option (List ℕ)
  pub steps : Option (List PlainStep)
  pub records : Option (List MetricsRecord)

-- All that a session gives is handed on: its lines, its steps and its records.
pub record HandsOnAll (rules : Rules) (es : List Event) (old new : OutputState) : Type 0 where
  pub lines : Grows old.held new.held (all_of (stream rules) (outputs rules).line [] es)
  pub steps : Grows old.steps new.steps (all_of (stream rules) (outputs rules).steps [] es)
  pub records : Grows old.records new.records (all_of (stream rules) (outputs rules).records [] es)

-- only after these results may the line of the last event be written in part
abbrev pub cuts_line : Result ℕ ProtoError → Bool
cuts_line (Err (errors.Follow follow_errors.OutOfMemory)) = true
cuts_line (Err (errors.Follow follow_errors.WriteFault)) = true
cuts_line _ = false

-- only after this result may the steps and records of the last event be handed on in part
abbrev pub cuts_steps : Result ℕ ProtoError → Bool
cuts_steps (Err (errors.Follow follow_errors.OutOfMemory)) = true
cuts_steps _ = false

-- A beginning of what a session gives is handed on, and nothing else: all that its first events
-- give, but of the last of these maybe only a part, where that may be cut. Of each event the steps
-- come first, then its records, and then its line.
pub record HandsOnBeginning (rules : Rules) (es : List Event) (line_cut steps_cut : Bool)
    (old new : OutputState) : Type 0 where
  pub first : List Event
  pub others : List Event
  pub session : es ≡ first ++ others
  pub lines : GrowsUpTo old.held new.held (all_of (stream rules) (outputs rules).line [] first)
      line_cut
  pub steps : GrowsUpTo old.steps new.steps (all_of (stream rules) (outputs rules).steps [] first)
      steps_cut
  pub records : GrowsUpTo old.records new.records
      (all_of (stream rules) (outputs rules).records [] first) steps_cut
  pub order : (before : List Event) (last : Event) → first ≡ before ++ last ∷ []
      → IsInOrder (stream rules) (outputs rules) before first steps.count records.count
      lines.count

-- Reading or writing failed, or memory ran out. What was handed on till then is a beginning of what
-- the session of the messages gives with which the body begins, at most `max` of them.
pub record CutShort (rules : Rules) (start : ℤ) (max : ℕ) (bytes : List ℕ)
    (old new : OutputState) (r : Result ℕ ProtoError) : Type 0 where
  pub free : IsTrue (is_free r)
  pub given : HandsOnBeginning rules (session_of rules start (body_within max bytes).0)
      (cuts_line r) (cuts_steps r) old new

-- The messages with which a body begins, at most `max` of them, are followed:
-- all that their session gives is handed on, and they fix the result.
pub record FollowsBody (rules : Rules) (start : ℤ) (max : ℕ) (bytes : List ℕ)
    (old new : OutputState) (r : Result ℕ ProtoError) : Type 0 where
  pub messages : List ContextResponse
  pub rest : List ℕ
  pub reading : body_within max bytes ≡ (messages, rest)
  pub answer : r ≡ answer_of rules start max messages rest
  pub given : HandsOnAll rules (session_of rules start messages) old new

-- where the bytes are known, they fix the result and all that is handed on,
-- or a failure or the end of memory cut that short
abbrev pub BodyFollowed : Rules → ℤ → ℕ → Option (List ℕ) → OutputState → OutputState
    → Result ℕ ProtoError → Type 0
BodyFollowed rules start max left old new r =
    IfSome left (λ bytes. CutShort rules start max bytes old new r
    ⊎ FollowsBody rules start max bytes old new r)
