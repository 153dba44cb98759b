-- What an event does, by the definitions.
use Rattle.std.proofs.Common.{◌≡◌, Bool, cond, List, Option, None, refl, subst}
use Rattle.std.specs.Prelude.{ℤ}
use Rattle.spf_api.specs.Refused.{Refused}
use Rattle.spf_api.specs.Errors.{status_reading}
use Rattle.spf_api.specs.declared.error.WorkloadApiError.{WorkloadApiError}
use Rattle.spf_view.specs.Views.{denied_or_passed, outcome_with}
use Rattle.spf_jwt.specs.declared.limits.JwtResourceLimits.{JwtResourceLimits}
use Rattle.spf_feed.specs.declared.event.SessionEvent.{SessionEvent}
use Rattle.spf_feed.specs.declared.event.SessionEvent.TheVariants as events
use Rattle.spf_feed.specs.declared.phase.Phase.{Phase}
use Rattle.spf_feed.specs.Events.{map_item}
use Rattle.spf_feed.specs.Items.{denial_in}
use Rattle.spf_feed.specs.Run.{rejected_or_unsupported}
use Rattle.spf_feed.specs.Turns.{refusal_in}
use Rattle.spf_feed.proofs.TurnLemmas.{refusal_of_status}
use Rattle.spf_jwt_feed.specs.declared.event.JwtItem.{JwtItem}
use Rattle.spf_jwt_feed.specs.declared.record.JwtMetricsRecord.{JwtMetricsRecord}
use Rattle.spf_jwt_feed.specs.declared.turn.Turn.{Turn}
use Rattle.spf_jwt_feed.specs.Items.{subject_by}
use Rattle.spf_jwt_feed.specs.Run.{asked_by, records_by}
use Rattle.spf_jwt_feed.specs.Turns.{IsTurn}

-- a turn by the reading of a status is one by the status
pub turn_of_status : (synced : Bool) (answer : WorkloadApiError) (s : Refused)
    (records : List JwtMetricsRecord) (turn : Turn) → answer ≡ status_reading s
    → IsTurn (cond synced None (refusal_in answer)) (denied_or_passed synced (denial_in answer))
    records turn → IsTurn (cond synced None (rejected_or_unsupported s))
    (denied_or_passed synced (denial_in (status_reading s))) records turn
turn_of_status synced answer s records turn reads h =
    subst (λ r.
    IsTurn (cond synced None r) (denied_or_passed synced (denial_in (status_reading s)))
    records turn)
    (refusal_of_status s)
    (subst (λ a.
    IsTurn (cond synced None (refusal_in a)) (denied_or_passed synced (denial_in a)) records turn)
    reads h)

-- ---- the same of an event as it is received

pub outcome-map_item : {I : Type 0} (read : I → JwtItem) (limits : JwtResourceLimits)
    (synced : Bool) (now : Option ℤ) (e : SessionEvent I)
    → outcome_with (subject_by read limits) synced now e
    ≡ outcome_with (subject_by (λ i. i) limits) synced None (map_item read e)
outcome-map_item read limits synced now events.ClientMade = refl
outcome-map_item read limits synced now (events.ClientFailed x) = refl
outcome-map_item read limits synced now events.Connected = refl
outcome-map_item read limits synced now (events.ConnectStatus x) = refl
outcome-map_item read limits synced now (events.Item x) = refl
outcome-map_item read limits synced now (events.ItemStatus x) = refl
outcome-map_item read limits synced now events.StreamEnd = refl
outcome-map_item read limits synced now (events.Moment x) = refl
outcome-map_item read limits synced now events.Close = refl

pub records-map_item : {I : Type 0} (read : I → JwtItem) (synced : Bool)
    (limits : JwtResourceLimits) (e : SessionEvent I)
    → records_by read synced limits e ≡ records_by (λ i. i) synced limits (map_item read e)
records-map_item read synced limits events.ClientMade = refl
records-map_item read synced limits (events.ClientFailed x) = refl
records-map_item read synced limits events.Connected = refl
records-map_item read synced limits (events.ConnectStatus x) = refl
records-map_item read synced limits (events.Item x) = refl
records-map_item read synced limits (events.ItemStatus x) = refl
records-map_item read synced limits events.StreamEnd = refl
records-map_item read synced limits (events.Moment x) = refl
records-map_item read synced limits events.Close = refl

pub asked-map_item : {I : Type 0} (read : I → JwtItem) (phase : Phase) (synced : Bool)
    (e : SessionEvent I)
    → asked_by read phase synced e ≡ asked_by (λ i. i) phase synced (map_item read e)
asked-map_item read phase synced events.ClientMade = refl
asked-map_item read phase synced (events.ClientFailed x) = refl
asked-map_item read phase synced events.Connected = refl
asked-map_item read phase synced (events.ConnectStatus x) = refl
asked-map_item read phase synced (events.Item x) = refl
asked-map_item read phase synced (events.ItemStatus x) = refl
asked-map_item read phase synced events.StreamEnd = refl
asked-map_item read phase synced (events.Moment x) = refl
asked-map_item read phase synced events.Close = refl
