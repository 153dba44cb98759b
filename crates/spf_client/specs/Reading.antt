-- How the answers of a link, and the faults of a connector, read as errors of the Workload API.
use Rattle.std.specs.Prelude.{◌≡◌, Option, None, Some, Result, Ok, Err}
use Rattle.spf_io.specs.Rule.{Gives}
use Rattle.spf_api.specs.Errors.{is_memory_api, status_reading}
use Rattle.spf_api.specs.declared.error.WorkloadApiError.{WorkloadApiError}
use Rattle.spf_api.specs.declared.error.WorkloadApiError.TheVariants as api
use Rattle.spf_api.specs.declared.link.ClientFault.{ClientFault}
use Rattle.spf_api.specs.declared.link.ClientFault.TheVariants as client
use Rattle.spf_api.specs.declared.link.LinkFault.{LinkFault}
use Rattle.spf_api.specs.declared.link.LinkFault.TheVariants as fault
use Rattle.spf_api.specs.declared.response.Response.{Response}
use Rattle.spf_api.specs.declared.status.TransportError.TheVariants as transport

-- the error that a refusal of a link stands for
abbrev pub fault_reading : LinkFault → WorkloadApiError
fault_reading (fault.Status s) = status_reading s
fault_reading (fault.Connect e) = api.Transport (transport.Connect e)
fault_reading fault.OutOfMemory = api.OutOfMemory

-- the error that a refusal of a connector stands for
abbrev pub client_fault_reading : ClientFault → WorkloadApiError
client_fault_reading (client.Status s) = status_reading s
client_fault_reading (client.Unreachable text) = api.Transport (transport.Connect text)
client_fault_reading client.OutOfMemory = api.OutOfMemory

-- the first response to a request by the first answer of the link: at the end of the stream there
-- is none
abbrev pub first_response_of : Result (Option Response) LinkFault → Result Response WorkloadApiError
first_response_of (Ok (Some r)) = Ok r
first_response_of (Ok None) = Err api.EmptyResponse
first_response_of (Err f) = Err (fault_reading f)

-- The response is of the kind that `of_kind` makes, and what is returned, seen by view, is what the
-- rule says of it, unless memory ran out.
pub record IsReadBy {R X Y : Type 0} (of_kind : R → Response) (rule : R → Result Y WorkloadApiError)
    (view : X → Y) (response : Response) (result : Result X WorkloadApiError) : Type 0 where
  pub body : R
  pub kind : response ≡ of_kind body
  pub read : Gives is_memory_api view result (rule body)

-- the same of a first response; without one, its error is returned as it is
abbrev pub ReadsFirst : {R X Y : Type 0} → (R → Response) → (R → Result Y WorkloadApiError)
    → (X → Y) → Result Response WorkloadApiError → Result X WorkloadApiError → Type 0
ReadsFirst of_kind rule view (Ok response) result = IsReadBy of_kind rule view response result
ReadsFirst of_kind rule view (Err e) result = result ≡ Err e

-- the same result, with its value wrapped
abbrev pub wrapped : {R : Type 0} → (R → Response) → Result R WorkloadApiError
    → Result Response WorkloadApiError
wrapped of_kind (Ok r) = Ok (of_kind r)
wrapped of_kind (Err e) = Err e
