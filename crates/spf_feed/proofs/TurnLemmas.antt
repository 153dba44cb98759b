-- What an event does, by the definitions.
use Rattle.std.proofs.Common.{◌≡◌, ◌≢◌, ℕ, Bool, true, false, cond, List, Option, Some, None, refl}
use Rattle.std.proofs.Common.{ap, subst}
use Rattle.std.specs.Prelude.{ℤ, codes}
use Rattle.spf_x509.specs.Context.{Context}
use Rattle.spf_api.specs.Refused.{Refused}
use Rattle.spf_api.specs.Errors.{status_reading}
use Rattle.spf_api.specs.Status.{holds}
use Rattle.spf_api.specs.declared.error.WorkloadApiError.{WorkloadApiError}
use Rattle.spf_api.specs.declared.error.WorkloadApiError.TheVariants as api
use Rattle.spf_api.specs.declared.status.GrpcStatusCode.{GrpcStatusCode}
use Rattle.spf_api.specs.declared.status.GrpcStatusCode.TheVariants as code
use Rattle.spf_view.specs.Views.{Passed, denied_or_passed, outcome_with}
use Rattle.spf_feed.specs.declared.event.SessionEvent.{SessionEvent}
use Rattle.spf_feed.specs.declared.event.SessionEvent.TheVariants as events
use Rattle.spf_feed.specs.declared.phase.Phase.{Phase}
use Rattle.spf_feed.specs.declared.limits.ResourceLimits.{ResourceLimits}
use Rattle.spf_feed.specs.declared.turn.Turn.{Turn}
use Rattle.spf_feed.specs.declared.record.MetricsRecord.{MetricsRecord}
use Rattle.spf_feed.specs.Events.{map_item, closes}
use Rattle.spf_feed.specs.Items.{Rules, subject_by, moment_of, denial_in}
use Rattle.spf_feed.specs.Run.{asked_by, rejected, rejected_or_unsupported, refusal_by, terminal_of}
use Rattle.spf_feed.specs.Run.{records_by}
use Rattle.spf_feed.specs.Turns.{IsTurn, refusal_by_code, refusal_in, client_refusal_by_code}
use Rattle.spf_feed.specs.Turns.{client_refusal_in}

-- ---- a status

-- neither of the two codes ends a session
pub no_refusal : (o : Option GrpcStatusCode) (e : WorkloadApiError) → o ≢ Some code.InvalidArgument
    → o ≢ Some code.Unimplemented → refusal_by_code o e ≡ None
no_refusal None e p q = refl
no_refusal (Some code.Ok) e p q = refl
no_refusal (Some code.Cancelled) e p q = refl
no_refusal (Some code.Unknown) e p q = refl
no_refusal (Some code.InvalidArgument) e p q = absurd (p refl)
no_refusal (Some code.DeadlineExceeded) e p q = refl
no_refusal (Some code.NotFound) e p q = refl
no_refusal (Some code.AlreadyExists) e p q = refl
no_refusal (Some code.PermissionDenied) e p q = refl
no_refusal (Some code.ResourceExhausted) e p q = refl
no_refusal (Some code.FailedPrecondition) e p q = refl
no_refusal (Some code.Aborted) e p q = refl
no_refusal (Some code.OutOfRange) e p q = refl
no_refusal (Some code.Unimplemented) e p q = absurd (q refl)
no_refusal (Some code.Internal) e p q = refl
no_refusal (Some code.Unavailable) e p q = refl
no_refusal (Some code.DataLoss) e p q = refl
no_refusal (Some code.Unauthenticated) e p q = refl

denied_refusal : (b : Bool) (message : List ℕ)
    → refusal_in (cond b api.NoIdentityIssued (api.PermissionDenied message)) ≡ None
denied_refusal true message = refl
denied_refusal false message = refl

refusal_of_code : (c : GrpcStatusCode) (m : List ℕ) (source : Option (List ℕ))
    → refusal_in (status_reading (record { code = c; message = m; source = source }))
    ≡ rejected_or_unsupported (record { code = c; message = m; source = source })
refusal_of_code code.Ok m source = refl
refusal_of_code code.Cancelled m source = refl
refusal_of_code code.Unknown m source = refl
refusal_of_code code.InvalidArgument m source = refl
refusal_of_code code.DeadlineExceeded m source = refl
refusal_of_code code.NotFound m source = refl
refusal_of_code code.AlreadyExists m source = refl
refusal_of_code code.PermissionDenied m source =
    denied_refusal (holds (codes "no identity issued") m) m
refusal_of_code code.ResourceExhausted m source = refl
refusal_of_code code.FailedPrecondition m source = refl
refusal_of_code code.Aborted m source = refl
refusal_of_code code.OutOfRange m source = refl
refusal_of_code code.Unimplemented m source = refl
refusal_of_code code.Internal m source = refl
refusal_of_code code.Unavailable m source = refl
refusal_of_code code.DataLoss m source = refl
refusal_of_code code.Unauthenticated m source = refl

-- how a status ends a session, by its reading
pub refusal_of_status : (s : Refused) → refusal_in (status_reading s) ≡ rejected_or_unsupported s
refusal_of_status s = refusal_of_code s.code s.message s.source

-- before anything is accepted there is no denial
pub passed_before : {M D : Type 0} (o : Option D)
    → denied_or_passed {M = M} {D = D} false o ≡ Passed
passed_before None = refl
passed_before (Some d) = refl

-- a turn by the reading of a status is one by the status
pub turn_of_status : (synced : Bool) (answer : WorkloadApiError) (s : Refused)
    (records : List MetricsRecord) (turn : Turn) → answer ≡ status_reading s
    → IsTurn (cond synced None (refusal_in answer)) (denied_or_passed synced (denial_in answer))
    records turn → IsTurn (cond synced None (rejected_or_unsupported s))
    (denied_or_passed synced (denial_in (status_reading s))) records turn
turn_of_status synced answer s records turn reads h =
    subst (λ r.
    IsTurn (cond synced None r) (denied_or_passed synced (denial_in (status_reading s)))
    records turn)
    (refusal_of_status s)
    (subst (λ a.
    IsTurn (cond synced None (refusal_in a)) (denied_or_passed synced (denial_in a)) records turn)
    reads h)

-- ---- a status of the client

pub no_client_refusal : (o : Option GrpcStatusCode) (e : WorkloadApiError)
    → o ≢ Some code.InvalidArgument → client_refusal_by_code o e ≡ None
no_client_refusal None e p = refl
no_client_refusal (Some code.Ok) e p = refl
no_client_refusal (Some code.Cancelled) e p = refl
no_client_refusal (Some code.Unknown) e p = refl
no_client_refusal (Some code.InvalidArgument) e p = absurd (p refl)
no_client_refusal (Some code.DeadlineExceeded) e p = refl
no_client_refusal (Some code.NotFound) e p = refl
no_client_refusal (Some code.AlreadyExists) e p = refl
no_client_refusal (Some code.PermissionDenied) e p = refl
no_client_refusal (Some code.ResourceExhausted) e p = refl
no_client_refusal (Some code.FailedPrecondition) e p = refl
no_client_refusal (Some code.Aborted) e p = refl
no_client_refusal (Some code.OutOfRange) e p = refl
no_client_refusal (Some code.Unimplemented) e p = refl
no_client_refusal (Some code.Internal) e p = refl
no_client_refusal (Some code.Unavailable) e p = refl
no_client_refusal (Some code.DataLoss) e p = refl
no_client_refusal (Some code.Unauthenticated) e p = refl

client_denied : (b : Bool) (message : List ℕ)
    → client_refusal_in (cond b api.NoIdentityIssued (api.PermissionDenied message)) ≡ None
client_denied true message = refl
client_denied false message = refl

client_refusal_of_code : (c : GrpcStatusCode) (m : List ℕ) (source : Option (List ℕ))
    → client_refusal_in (status_reading (record { code = c; message = m; source = source }))
    ≡ rejected (record { code = c; message = m; source = source })
client_refusal_of_code code.Ok m source = refl
client_refusal_of_code code.Cancelled m source = refl
client_refusal_of_code code.Unknown m source = refl
client_refusal_of_code code.InvalidArgument m source = refl
client_refusal_of_code code.DeadlineExceeded m source = refl
client_refusal_of_code code.NotFound m source = refl
client_refusal_of_code code.AlreadyExists m source = refl
client_refusal_of_code code.PermissionDenied m source =
    client_denied (holds (codes "no identity issued") m) m
client_refusal_of_code code.ResourceExhausted m source = refl
client_refusal_of_code code.FailedPrecondition m source = refl
client_refusal_of_code code.Aborted m source = refl
client_refusal_of_code code.OutOfRange m source = refl
client_refusal_of_code code.Unimplemented m source = refl
client_refusal_of_code code.Internal m source = refl
client_refusal_of_code code.Unavailable m source = refl
client_refusal_of_code code.DataLoss m source = refl
client_refusal_of_code code.Unauthenticated m source = refl

pub client_refusal_of_status : (s : Refused) → client_refusal_in (status_reading s) ≡ rejected s
client_refusal_of_status s = client_refusal_of_code s.code s.message s.source

-- ---- the same of an event as it is received

pub outcome-map_item : {I : Type 0} (read : I → Option Context) (rules : Rules) (synced : Bool)
    (now : Option ℤ) (e : SessionEvent I)
    → outcome_with (subject_by read rules) synced now e
    ≡ outcome_with (subject_by (λ o. o) rules) synced now (map_item read e)
outcome-map_item read rules synced now events.ClientMade = refl
outcome-map_item read rules synced now (events.ClientFailed x) = refl
outcome-map_item read rules synced now events.Connected = refl
outcome-map_item read rules synced now (events.ConnectStatus x) = refl
outcome-map_item read rules synced now (events.Item x) = refl
outcome-map_item read rules synced now (events.ItemStatus x) = refl
outcome-map_item read rules synced now events.StreamEnd = refl
outcome-map_item read rules synced now (events.Moment x) = refl
outcome-map_item read rules synced now events.Close = refl

terminal-map_item : {I J : Type 0} (f : I → J) (deadline : Option ℤ) (e : SessionEvent I)
    → terminal_of deadline e ≡ terminal_of deadline (map_item f e)
terminal-map_item f deadline events.ClientMade = refl
terminal-map_item f deadline (events.ClientFailed x) = refl
terminal-map_item f deadline events.Connected = refl
terminal-map_item f deadline (events.ConnectStatus x) = refl
terminal-map_item f deadline (events.Item x) = refl
terminal-map_item f deadline (events.ItemStatus x) = refl
terminal-map_item f deadline events.StreamEnd = refl
terminal-map_item f deadline (events.Moment x) = refl
terminal-map_item f deadline events.Close = refl

pub refusal-map_item : {I J : Type 0} (f : I → J) (deadline : Option ℤ) (synced : Bool)
    (e : SessionEvent I) → refusal_by deadline synced e ≡ refusal_by deadline synced (map_item f e)
refusal-map_item f deadline synced e = ap (λ t. cond synced None t) (terminal-map_item f deadline e)

pub records-map_item : {I : Type 0} (read : I → Option Context) (synced : Bool)
    (limits : ResourceLimits) (e : SessionEvent I)
    → records_by read synced limits e ≡ records_by (λ o. o) synced limits (map_item read e)
records-map_item read synced limits events.ClientMade = refl
records-map_item read synced limits (events.ClientFailed x) = refl
records-map_item read synced limits events.Connected = refl
records-map_item read synced limits (events.ConnectStatus x) = refl
records-map_item read synced limits (events.Item x) = refl
records-map_item read synced limits (events.ItemStatus x) = refl
records-map_item read synced limits events.StreamEnd = refl
records-map_item read synced limits (events.Moment x) = refl
records-map_item read synced limits events.Close = refl

pub asked-map_item : {I : Type 0} (read : I → Option Context) (phase : Phase) (synced : Bool)
    (e : SessionEvent I)
    → asked_by read phase synced e ≡ asked_by (λ o. o) phase synced (map_item read e)
asked-map_item read phase synced events.ClientMade = refl
asked-map_item read phase synced (events.ClientFailed x) = refl
asked-map_item read phase synced events.Connected = refl
asked-map_item read phase synced (events.ConnectStatus x) = refl
asked-map_item read phase synced (events.Item x) = refl
asked-map_item read phase synced (events.ItemStatus x) = refl
asked-map_item read phase synced events.StreamEnd = refl
asked-map_item read phase synced (events.Moment x) = refl
asked-map_item read phase synced events.Close = refl

pub moment-map_item : {I J : Type 0} (f : I → J) (e : SessionEvent I)
    → moment_of e ≡ moment_of (map_item f e)
moment-map_item f events.ClientMade = refl
moment-map_item f (events.ClientFailed x) = refl
moment-map_item f events.Connected = refl
moment-map_item f (events.ConnectStatus x) = refl
moment-map_item f (events.Item x) = refl
moment-map_item f (events.ItemStatus x) = refl
moment-map_item f events.StreamEnd = refl
moment-map_item f (events.Moment x) = refl
moment-map_item f events.Close = refl

pub closes-map_item : {I J : Type 0} (f : I → J) (e : SessionEvent I)
    → closes e ≡ closes (map_item f e)
closes-map_item f events.ClientMade = refl
closes-map_item f (events.ClientFailed x) = refl
closes-map_item f events.Connected = refl
closes-map_item f (events.ConnectStatus x) = refl
closes-map_item f (events.Item x) = refl
closes-map_item f (events.ItemStatus x) = refl
closes-map_item f events.StreamEnd = refl
closes-map_item f (events.Moment x) = refl
closes-map_item f events.Close = refl
