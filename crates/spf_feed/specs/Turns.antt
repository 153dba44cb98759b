-- What an event does.
use Rattle.std.specs.Prelude.{◌≡◌, Bool, IsTrue, List, ◌++◌, Option, Some, None}
use Rattle.std.specs.Option.{option_map, option_to_list}
use Rattle.spf_api.specs.declared.status.GrpcStatusCode.{GrpcStatusCode}
use Rattle.spf_api.specs.declared.status.GrpcStatusCode.TheVariants as code
use Rattle.spf_api.specs.declared.error.WorkloadApiError.{WorkloadApiError}
use Rattle.spf_api.specs.Errors.{status_code_of}
use Rattle.spf_view.specs.Views.{Outcome, Accepted, Denied, Passed}
use Rattle.spf_feed.specs.declared.limits.ResourceLimits.{ResourceLimits}
use Rattle.spf_feed.specs.declared.record.MetricsRecord.{MetricsRecord}
use Rattle.spf_feed.specs.declared.record.MetricsRecord.TheVariants as records
use Rattle.spf_feed.specs.declared.step.Denial.{Denial}
use Rattle.spf_feed.specs.declared.turn.Records.{Records}
use Rattle.spf_feed.specs.declared.turn.Terminal.{Terminal}
use Rattle.spf_feed.specs.declared.turn.Terminal.TheVariants as terminal
use Rattle.spf_feed.specs.declared.turn.Turn.{Turn}
use Rattle.spf_feed.specs.declared.turn.Turn.TheVariants as turns
use Rattle.spf_feed.specs.Steps.{Material, fits}

-- an accepted context fits, and a denial comes only where an item was accepted before it
abbrev pub MayTake : ResourceLimits → Bool → Turn → Type 0
MayTake limits synced (turns.Terminal end) = Unit {0}
MayTake limits synced (turns.Accepted context choice) =
    IsTrue (fits limits (record { context = context; choice = choice }))
MayTake limits synced (turns.Denied reason records) = IsTrue synced
MayTake limits synced (turns.Passed records) = Unit {0}

-- the records in order
abbrev pub listed : Records → List MetricsRecord
listed r = option_to_list (option_map records.Error r.error) ++ option_to_list r.end

-- The turn of an event, by how it ends the session, by what
-- becomes of it, and by its records where it is not accepted.
abbrev pub IsTurn : Option Terminal → Outcome Material Denial → List MetricsRecord → Turn → Type 0
IsTurn refusal outcome list (turns.Terminal end) = refusal ≡ Some end
IsTurn refusal outcome list (turns.Accepted context choice) =
    (refusal ≡ None) × (outcome ≡ Accepted (record { context = context; choice = choice }))
IsTurn refusal outcome list (turns.Denied reason records) =
    (refusal ≡ None) × (outcome ≡ Denied reason) × (listed records ≡ list)
IsTurn refusal outcome list (turns.Passed records) =
    (refusal ≡ None) × (outcome ≡ Passed) × (listed records ≡ list)

-- how an error of the Workload API ends a session in which nothing is accepted
abbrev pub refusal_by_code : Option GrpcStatusCode → WorkloadApiError → Option Terminal
refusal_by_code (Some code.InvalidArgument) answer = Some (terminal.Source answer)
refusal_by_code (Some code.Unimplemented) answer = Some (terminal.UnsupportedRpc answer)
refusal_by_code _ answer = None

abbrev pub refusal_in : WorkloadApiError → Option Terminal
refusal_in answer = refusal_by_code (status_code_of answer) answer

-- the same of a client
abbrev pub client_refusal_by_code : Option GrpcStatusCode → WorkloadApiError → Option Terminal
client_refusal_by_code (Some code.InvalidArgument) answer = Some (terminal.Source answer)
client_refusal_by_code _ answer = None

abbrev pub client_refusal_in : WorkloadApiError → Option Terminal
client_refusal_in answer = client_refusal_by_code (status_code_of answer) answer
