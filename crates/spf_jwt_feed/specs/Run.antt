-- JWT sessions: what comes next, what ends a session, and what an event gives.
use Rattle.std.specs.Prelude.{◌+◌, Bool, ◌&&◌, if◌then◌else◌, List, [], ◌∷◌, ◌++◌, length}
use Rattle.std.specs.Prelude.{decimal, Option, None, Some, Result, Ok, Err}
use Rattle.std.specs.Option.{option_map, option_to_list}
use Rattle.spf_api.specs.declared.error.WorkloadApiError.{WorkloadApiError}
use Rattle.spf_api.specs.declared.error.WorkloadApiError.TheVariants as api
use Rattle.spf_api.specs.Errors.{status_reading}
use Rattle.spf_view.specs.Views.{Outcome, Accepted, Denied, Passed, View, Waiting, Permitted}
use Rattle.spf_view.specs.Views.{same_view, has_synced, outcome, outcomes, view_of, revision_of}
use Rattle.spf_view.specs.Steps.{step_in}
use Rattle.spf_view.specs.Sessions.{Stream, Outputs}
use Rattle.spf_jwt.specs.Bundle.{set_eq}
use Rattle.spf_jwt.specs.Limits.{within}
use Rattle.spf_jwt.specs.declared.limits.JwtLimitBroken.{JwtLimitBroken}
use Rattle.spf_jwt.specs.declared.limits.JwtLimitKind.{JwtLimitKind}
use Rattle.spf_jwt.specs.declared.limits.JwtLimitKind.TheVariants.{MaxBundles, MaxBundleJwksBytes}
use Rattle.spf_jwt.specs.declared.limits.JwtResourceLimits.{JwtResourceLimits}
use Rattle.spf_feed.specs.declared.event.SessionEvent.{SessionEvent}
use Rattle.spf_feed.specs.declared.event.SessionEvent.TheVariants as events
use Rattle.spf_feed.specs.declared.phase.Phase.{Phase}
use Rattle.spf_feed.specs.declared.phase.Phase.TheVariants as phases
use Rattle.spf_feed.specs.declared.step.Denial.{Denial}
use Rattle.spf_feed.specs.declared.turn.Terminal.{Terminal}
use Rattle.spf_feed.specs.Events.{event_at, closes}
use Rattle.spf_feed.specs.Frames.{allows}
use Rattle.spf_feed.specs.Run.{refusal_by}
use Rattle.spf_jwt_feed.specs.declared.event.JwtItem.{JwtItem}
use Rattle.spf_jwt_feed.specs.declared.event.JwtItem.TheVariants as item
use Rattle.spf_jwt_feed.specs.declared.record.JwtMetricsErrorKind.{JwtMetricsErrorKind}
use Rattle.spf_jwt_feed.specs.declared.record.JwtMetricsErrorKind.TheVariants as kinds
use Rattle.spf_jwt_feed.specs.declared.record.JwtMetricsRecord.{JwtMetricsRecord}
use Rattle.spf_jwt_feed.specs.declared.record.JwtMetricsRecord.TheVariants as records
use Rattle.spf_jwt_feed.specs.Items.{Event, Rules, subject_by, subject, item_in, response_at}
use Rattle.spf_jwt_feed.specs.Items.{keeps_stream}
use Rattle.spf_jwt_feed.specs.Shown.{shown_text}
use Rattle.spf_jwt_feed.specs.Steps.{BundleSet, PlainStep}

-- What comes next after an event: after an accepted item, one that breaks no rule, or only the rule
-- that it is not empty, keeps the stream; a moment changes nothing.
abbrev pub asked_by : {I : Type 0} → (I → JwtItem) → Phase → Bool → SessionEvent I → Phase
asked_by read before synced events.ClientMade = phases.Connect
asked_by read before synced events.Connected = phases.Next
asked_by read before synced (events.Item i) =
    if synced && keeps_stream (read i) then phases.Next else phases.Client
asked_by read before synced (events.Moment m) = before
asked_by read before synced _ = phases.Client

-- what comes next, by the last event that is not a moment
abbrev pub ask_of : {I : Type 0} → (I → JwtItem) → Rules → List (SessionEvent I) → Phase
ask_of read rules [] = phases.Client
ask_of read rules (e ∷ past) =
    asked_by read (ask_of read rules past) (has_synced (subject_by read rules.limits) past) e

-- the stream of a JWT session; what ends it is what ends an X.509 session
abbrev pub stream : Rules → Stream Event Terminal
stream rules = record {
  event_at = event_at response_at;
  allows = λ past kind. allows (ask_of item_in rules past) kind;
  refusal = λ past e. refusal_by rules.deadline (has_synced (subject rules) past) e;
  closes = closes;
  synced = has_synced (subject rules);
}

-- ---- records

-- the records of an attempt that ended, before or after something was accepted: its error, where
-- there is one, and then the end itself
abbrev pub ended : Bool → Option JwtMetricsErrorKind → List JwtMetricsRecord
ended synced error =
    option_to_list (option_map records.Error error)
    ++ ((if synced then records.Reconnect else records.Error kinds.InitialSyncFailed) ∷ [])

-- the records of a rejected update: its error, where there is one, and then the rejection itself
abbrev pub rejected : Bool → Option JwtMetricsErrorKind → List JwtMetricsRecord
rejected synced error =
    option_to_list (option_map records.Error error)
    ++ ((if synced then records.Error kinds.UpdateRejected
    else records.Error kinds.InitialSyncFailed) ∷ [])

abbrev pub limit_error : JwtLimitKind → JwtMetricsErrorKind
limit_error MaxBundles = kinds.LimitMaxBundles
limit_error MaxBundleJwksBytes = kinds.LimitMaxBundleJwksBytes

-- an item without bundles: once something is accepted, a rejected update
abbrev pub empty_records : Bool → List JwtMetricsRecord
empty_records synced =
    if synced then rejected synced None else ended synced (Some kinds.StreamError)

-- an item that breaks no rule and is not accepted passes a limit
abbrev pub kept_out : Bool → Result (Unit {0}) JwtLimitBroken → List JwtMetricsRecord
kept_out synced (Err broken) = rejected synced (Some (limit_error broken.kind))
kept_out synced (Ok done) = []

abbrev pub item_records : Bool → JwtResourceLimits → JwtItem → List JwtMetricsRecord
item_records synced limits (item.Bundles set) = kept_out synced (within limits set)
item_records synced limits item.Empty = empty_records synced
item_records synced limits item.Broken = ended synced (Some kinds.StreamError)

-- that no identity is issued is not an error of the connection
abbrev pub connect_error : WorkloadApiError → Option JwtMetricsErrorKind
connect_error api.NoIdentityIssued = None
connect_error _ = Some kinds.StreamConnect

-- the records of an event that is not accepted
abbrev pub records_by : {I : Type 0} → (I → JwtItem) → Bool → JwtResourceLimits → SessionEvent I
    → List JwtMetricsRecord
records_by read synced limits (events.ClientFailed e) = ended synced (Some kinds.ClientCreation)
records_by read synced limits (events.ConnectStatus s) =
    ended synced (connect_error (status_reading s))
records_by read synced limits (events.Item i) = item_records synced limits (read i)
records_by read synced limits (events.ItemStatus s) = ended synced (Some kinds.StreamError)
records_by read synced limits events.StreamEnd = ended synced (Some kinds.StreamEnded)
records_by read synced limits _ = []

-- an accepted item is an update where something else was visible before it; the first one is not
abbrev pub update_records : View BundleSet Denial → BundleSet → List JwtMetricsRecord
update_records Waiting set = []
update_records view set =
    if same_view set_eq view (Permitted set) then [] else (records.Update ∷ [])

abbrev pub records_in : {I : Type 0} → (I → JwtItem) → Bool → JwtResourceLimits
    → View BundleSet Denial → SessionEvent I → Outcome BundleSet Denial → List JwtMetricsRecord
records_in read synced limits view e (Accepted set) = update_records view set
records_in read synced limits view e (Denied reason) = records_by read synced limits e
records_in read synced limits view e Passed = records_by read synced limits e

-- ---- lines

-- what the events give, where `shown_text` is the line of a view without its number
abbrev pub outputs : Rules → Outputs Event PlainStep JwtMetricsRecord
outputs rules = record {
  line = λ past e.
      decimal (length past + 1)
      ++ shown_text (view_of (outcomes (subject rules) (e ∷ past)))
      (revision_of set_eq (outcomes (subject rules) (e ∷ past)));
  steps = λ past e. option_to_list (step_in rules.limits (outcome (subject rules) e past));
  records = λ past e.
      records_in item_in (has_synced (subject rules) past) rules.limits
      (view_of (outcomes (subject rules) past)) e (outcome (subject rules) e past);
}
