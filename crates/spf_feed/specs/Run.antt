-- X.509 sessions: what comes next, what ends a session, and what an event gives.
use Rattle.std.specs.Prelude.{ℕ, ◌+◌, ℤ, int_le, Bool, ◌==◌, ◌&&◌, if◌then◌else◌, List, [], ◌∷◌}
use Rattle.std.specs.Prelude.{◌++◌, length, decimal, Option, None, Some, is_some, Result, Ok, Err}
use Rattle.std.specs.Option.{option_map, option_to_list}
use Rattle.spf_x509.specs.Context.{Context}
use Rattle.spf_api.specs.declared.link.ClientFault.{ClientFault}
use Rattle.spf_api.specs.declared.link.ClientFault.TheVariants as fault
use Rattle.spf_api.specs.declared.error.WorkloadApiError.{WorkloadApiError}
use Rattle.spf_api.specs.declared.error.WorkloadApiError.TheVariants as api
use Rattle.spf_api.specs.Refused.{Refused}
use Rattle.spf_api.specs.Errors.{status_reading}
use Rattle.spf_api.specs.Status.{code_number}
use Rattle.spf_api.specs.Reading.{context_at}
use Rattle.spf_view.specs.Views.{Outcome, Accepted, Denied, Passed, View, Waiting, Permitted}
use Rattle.spf_view.specs.Views.{same_view, has_synced, last_moment, outcome, outcomes, view_of}
use Rattle.spf_view.specs.Views.{revision_of}
use Rattle.spf_view.specs.Steps.{step_in}
use Rattle.spf_view.specs.Sessions.{Stream, Outputs, End, Whole, OutOfMemory, ReadFault, WriteFault}
use Rattle.spf_view.specs.Sessions.{TooLong, BadFrame, Refused as SessionRefused, NeverSynced}
use Rattle.spf_feed.specs.declared.event.SessionEvent.{SessionEvent}
use Rattle.spf_feed.specs.declared.event.SessionEvent.TheVariants as events
use Rattle.spf_feed.specs.declared.follow_error.FollowError.{FollowError}
use Rattle.spf_feed.specs.declared.follow_error.FollowError.TheVariants as follow_errors
use Rattle.spf_feed.specs.declared.phase.Phase.{Phase}
use Rattle.spf_feed.specs.declared.phase.Phase.TheVariants as phases
use Rattle.spf_feed.specs.declared.limits.LimitBroken.{LimitBroken}
use Rattle.spf_feed.specs.declared.limits.LimitKind.{LimitKind}
use Rattle.spf_feed.specs.declared.limits.LimitKind.TheVariants.{MaxSvids, MaxBundles}
use Rattle.spf_feed.specs.declared.limits.LimitKind.TheVariants.{MaxBundleDerBytes, MaxCrlBytes}
use Rattle.spf_feed.specs.declared.limits.ResourceLimits.{ResourceLimits}
use Rattle.spf_feed.specs.declared.record.MetricsErrorKind.{MetricsErrorKind}
use Rattle.spf_feed.specs.declared.record.MetricsErrorKind.TheVariants as kinds
use Rattle.spf_feed.specs.declared.record.MetricsRecord.{MetricsRecord}
use Rattle.spf_feed.specs.declared.record.MetricsRecord.TheVariants as records
use Rattle.spf_feed.specs.declared.step.Denial.{Denial}
use Rattle.spf_feed.specs.declared.turn.Terminal.{Terminal}
use Rattle.spf_feed.specs.declared.turn.Terminal.TheVariants as terminal
use Rattle.spf_feed.specs.Events.{event_at, closes}
use Rattle.spf_feed.specs.Frames.{allows}
use Rattle.spf_feed.specs.Items.{Event, Rules, subject_by, subject, context_in}
use Rattle.spf_feed.specs.Limits.{within}
use Rattle.spf_feed.specs.Steps.{Material, PlainStep, same_material}
use Rattle.spf_feed.specs.Shown.{shown_text}

-- What comes next after an event: an item that parses, after an accepted one, keeps the stream; a
-- moment changes nothing.
abbrev pub asked_by : {I : Type 0} → (I → Option Context) → Phase → Bool → SessionEvent I → Phase
asked_by read before synced events.ClientMade = phases.Connect
asked_by read before synced events.Connected = phases.Next
asked_by read before synced (events.Item i) =
    if synced && is_some (read i) then phases.Next else phases.Client
asked_by read before synced (events.Moment m) = before
asked_by read before synced _ = phases.Client

-- what comes next, by the last event that is not a moment
abbrev pub ask_of : {I : Type 0} → (I → Option Context) → Rules → List (SessionEvent I) → Phase
ask_of read rules [] = phases.Client
ask_of read rules (e ∷ past) =
    asked_by read (ask_of read rules past) (has_synced (subject_by read rules) past) e

-- INVALID_ARGUMENT rejects the request
abbrev pub rejected : Refused → Option Terminal
rejected s = if code_number s.code == 3 then Some (terminal.Source (status_reading s)) else None

-- UNIMPLEMENTED says that the required RPC is unsupported
abbrev pub rejected_or_unsupported : Refused → Option Terminal
rejected_or_unsupported s =
    if code_number s.code == 3 then Some (terminal.Source (status_reading s))
    else (if code_number s.code == 12 then Some (terminal.UnsupportedRpc (status_reading s))
    else None)

abbrev pub client_rejected : ClientFault → Option Terminal
client_rejected (fault.Status s) = rejected s
client_rejected (fault.Unreachable text) = None
client_rejected fault.OutOfMemory = None

abbrev pub timed_out : Option ℤ → ℤ → Option Terminal
timed_out None moment = None
timed_out (Some deadline) moment =
    if int_le deadline moment then Some terminal.InitialSyncTimeout else None

-- how an event ends a session in which nothing is accepted
abbrev pub terminal_of : {I : Type 0} → Option ℤ → SessionEvent I → Option Terminal
terminal_of deadline (events.ClientFailed e) = client_rejected e
terminal_of deadline (events.ConnectStatus s) = rejected_or_unsupported s
terminal_of deadline (events.ItemStatus s) = rejected_or_unsupported s
terminal_of deadline (events.Moment m) = timed_out deadline m
terminal_of deadline events.Close = Some terminal.Closed
terminal_of deadline _ = None

-- an event is terminal only before anything is accepted
abbrev pub refusal_by : {I : Type 0} → Option ℤ → Bool → SessionEvent I → Option Terminal
refusal_by deadline synced e = if synced then None else terminal_of deadline e

abbrev pub stream_by : {I : Type 0} → (I → Option Context) → (List ℕ → Option I) → Rules
    → Stream (SessionEvent I) Terminal
stream_by read item_at rules = record {
  event_at = event_at item_at;
  allows = λ past kind. allows (ask_of read rules past) kind;
  refusal = λ past e. refusal_by rules.deadline (has_synced (subject_by read rules) past) e;
  closes = closes;
  synced = has_synced (subject_by read rules);
}

-- the stream of an X.509 session
abbrev pub stream : Rules → Stream Event Terminal
stream rules = stream_by context_in context_at rules

-- ---- records

-- the records of an attempt that ended, before or after something was accepted: its error, where
-- there is one, and then the end itself
abbrev pub ended : Bool → Option MetricsErrorKind → List MetricsRecord
ended synced error =
    option_to_list (option_map records.Error error)
    ++ ((if synced then records.Reconnect else records.Error kinds.InitialSyncFailed) ∷ [])

abbrev pub limit_error : LimitKind → MetricsErrorKind
limit_error MaxSvids = kinds.LimitMaxSvids
limit_error MaxBundles = kinds.LimitMaxBundles
limit_error MaxBundleDerBytes = kinds.LimitMaxBundleDerBytes
limit_error MaxCrlBytes = kinds.LimitMaxCrlBytes

-- an item passes a limit
abbrev pub over_limit : Bool → LimitKind → List MetricsRecord
over_limit synced kind =
    records.Error (limit_error kind)
    ∷ records.Error (if synced then kinds.UpdateRejected else kinds.InitialSyncFailed) ∷ []

-- an item that parses and is not accepted: it passes a limit, or has no usable choice
abbrev pub kept_out : Bool → Result (Unit {0}) LimitBroken → List MetricsRecord
kept_out synced (Err broken) = over_limit synced broken.kind
kept_out synced (Ok done) = ended synced (Some kinds.NoSuitableSvid)

abbrev pub item_records : Bool → ResourceLimits → Option Context → List MetricsRecord
item_records synced limits None = ended synced (Some kinds.StreamError)
item_records synced limits (Some context) = kept_out synced (within limits context)

-- that no identity is issued is not an error of the connection
abbrev pub connect_error : WorkloadApiError → Option MetricsErrorKind
connect_error api.NoIdentityIssued = None
connect_error _ = Some kinds.StreamConnect

-- the records of an event that is not accepted
abbrev pub records_by : {I : Type 0} → (I → Option Context) → Bool → ResourceLimits → SessionEvent I
    → List MetricsRecord
records_by read synced limits (events.ClientFailed e) = ended synced (Some kinds.ClientCreation)
records_by read synced limits (events.ConnectStatus s) =
    ended synced (connect_error (status_reading s))
records_by read synced limits (events.Item i) = item_records synced limits (read i)
records_by read synced limits (events.ItemStatus s) = ended synced (Some kinds.StreamError)
records_by read synced limits events.StreamEnd = ended synced (Some kinds.StreamEnded)
records_by read synced limits _ = []

-- an accepted item is an update where something else was visible before it; the first one is not
abbrev pub update_records : View Material Denial → Material → List MetricsRecord
update_records Waiting material = []
update_records view material =
    if same_view same_material view (Permitted material) then [] else (records.Update ∷ [])

abbrev pub records_in : {I : Type 0} → (I → Option Context) → Bool → ResourceLimits
    → View Material Denial → SessionEvent I → Outcome Material Denial → List MetricsRecord
records_in read synced limits view e (Accepted material) = update_records view material
records_in read synced limits view e (Denied reason) = records_by read synced limits e
records_in read synced limits view e Passed = records_by read synced limits e

-- ---- lines

-- what the events give, where `shown_text` is the line of a view without its number
abbrev pub outputs : Rules → Outputs Event PlainStep MetricsRecord
outputs rules = record {
  line = λ past e.
      decimal (length past + 1)
      ++ shown_text (view_of (outcomes (subject rules) (e ∷ past)))
      (revision_of same_material (outcomes (subject rules) (e ∷ past)))
      (last_moment (subject rules) (e ∷ past));
  steps = λ past e. option_to_list (step_in rules.limits (outcome (subject rules) e past));
  records = λ past e.
      records_in context_in (has_synced (subject rules) past) rules.limits
      (view_of (outcomes (subject rules) past)) e (outcome (subject rules) e past);
}

-- ---- results

-- how a result of `follow_x509` ends a session
abbrev pub end_for : Result ℕ FollowError → End Terminal
end_for (Ok count) = Whole count
end_for (Err follow_errors.OutOfMemory) = OutOfMemory
end_for (Err follow_errors.ReadFault) = ReadFault
end_for (Err follow_errors.WriteFault) = WriteFault
end_for (Err follow_errors.SessionTooLong) = TooLong
end_for (Err (follow_errors.BadFrame frame)) = BadFrame frame
end_for (Err (follow_errors.Source e)) = SessionRefused (terminal.Source e)
end_for (Err (follow_errors.UnsupportedRpc e)) = SessionRefused (terminal.UnsupportedRpc e)
end_for (Err follow_errors.InitialSyncTimeout) = SessionRefused terminal.InitialSyncTimeout
end_for (Err follow_errors.Closed) = SessionRefused terminal.Closed
end_for (Err follow_errors.NeverSynced) = NeverSynced
