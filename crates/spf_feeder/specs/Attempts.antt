-- How attempts end: which events end one, and whether a stream gave something accepted.
use Rattle.std.specs.Prelude.{Bool, true, false, ◌||◌, if◌then◌else◌, List, [], ◌∷◌, Option, None}
use Rattle.std.specs.Prelude.{Some}
use Rattle.spf_api.specs.Errors.{status_reading}
use Rattle.spf_api.specs.declared.error.WorkloadApiError.{WorkloadApiError}
use Rattle.spf_api.specs.declared.error.WorkloadApiError.TheVariants as api
use Rattle.spf_api.specs.declared.link.ClientFault.{ClientFault}
use Rattle.spf_api.specs.declared.link.ClientFault.TheVariants as client
use Rattle.spf_system.specs.declared.pacer.AttemptEnd.{AttemptEnd}
use Rattle.spf_system.specs.declared.pacer.AttemptEnd.TheVariants as ends
use Rattle.spf_view.specs.Views.{Outcome, Subject, Accepted, Denied, Passed, outcome}
use Rattle.spf_feed.specs.declared.event.SessionEvent.{SessionEvent}
use Rattle.spf_feed.specs.declared.event.SessionEvent.TheVariants as events
use Rattle.spf_feed.specs.declared.phase.Phase.{Phase}
use Rattle.spf_feed.specs.declared.phase.Phase.TheVariants as phases

abbrev pub is_accepted : {M D : Type 0} → Outcome M D → Bool
is_accepted (Accepted m) = true
is_accepted (Denied d) = false
is_accepted Passed = false

-- whether the stream of the last connection gave an accepted item
abbrev pub gave_with : {I : Type 0} → Bool → Bool → SessionEvent I → Bool
gave_with gave accepted events.Connected = false
gave_with gave accepted e = accepted || gave

abbrev pub gave_accepted_by : {I M L D : Type 0} → Subject (SessionEvent I) M L D
    → List (SessionEvent I) → Bool
gave_accepted_by s [] = false
gave_accepted_by s (e ∷ past) =
    gave_with (gave_accepted_by s past) (is_accepted (outcome s e past)) e

abbrev pub is_no_identity : WorkloadApiError → Bool
is_no_identity api.NoIdentityIssued = true
is_no_identity _ = false

abbrev pub client_no_identity : ClientFault → Bool
client_no_identity (client.Status s) = is_no_identity (status_reading s)
client_no_identity _ = false

-- the stream of an item goes on where the next item is asked for
abbrev pub item_end : Phase → Bool → Option AttemptEnd
item_end phases.Next gave = None
item_end _ gave = Some (ends.Stream gave false)

-- how an event that is not accepted ends the attempt, where `ask` comes next
abbrev pub end_with : {I : Type 0} → Phase → Bool → SessionEvent I → Option AttemptEnd
end_with ask gave (events.ClientFailed f) = Some (ends.Client (client_no_identity f))
end_with ask gave (events.ConnectStatus s) =
    Some (ends.Connect (is_no_identity (status_reading s)))
end_with ask gave (events.Item i) = item_end ask gave
end_with ask gave (events.ItemStatus s) =
    Some (ends.Stream gave (is_no_identity (status_reading s)))
end_with ask gave events.StreamEnd = Some (ends.Stream gave false)
end_with ask gave _ = None

-- How an event after a history ends the attempt, where it does: an accepted item ends none. What is
-- asked next after a history is `ask`.
abbrev pub attempt_end_by : {I M L D : Type 0} → Subject (SessionEvent I) M L D
    → (List (SessionEvent I) → Phase) → List (SessionEvent I) → SessionEvent I → Option AttemptEnd
attempt_end_by s ask past e =
    if is_accepted (outcome s e past) then None
    else end_with (ask (e ∷ past)) (gave_accepted_by s past) e
