-- What client a connector makes.
use Rattle.std.specs.Prelude.{◌≡◌, ◌⊎◌, List, Option, None, Some, Result, Ok, Err}
use Rattle.spf_system.specs.declared.environment.EnvValue.{EnvValue}
use Rattle.spf_api.specs.declared.error.WorkloadApiError.{WorkloadApiError}
use Rattle.spf_api.specs.declared.error.WorkloadApiError.TheVariants as api
use Rattle.spf_api.specs.declared.link.ClientFault.{ClientFault}
use Rattle.spf_link.specs.Environment.{ReadsEndpoint}
use Rattle.spf_link.specs.declared.endpoint.Endpoint.{Endpoint}
use Rattle.spf_link.specs.Asked.{Connected}
use Rattle.spf_link.specs.declared.answer.Answer.{Answer}
use Rattle.spf_link.specs.declared.connector.Connector as connectors
use Rattle.spf_link.specs.declared.interceptor.NoInterceptor.{NoInterceptor}
use Rattle.spf_client.specs.Reading.{client_fault_reading}
use Rattle.spf_client.specs.declared.client.WorkloadApiClient.{WorkloadApiClient}

abbrev pub no_interceptor : NoInterceptor
no_interceptor = record {}

-- a client over the link, without an endpoint and an interceptor, or the error that the fault
-- stands for
abbrev pub client_of : {L : Type 0} → Result L ClientFault
    → Result (WorkloadApiClient L NoInterceptor) WorkloadApiError
client_of (Ok link) = Ok (record
    { endpoint = None; link = link; metadata = record { extra = no_interceptor } })
client_of (Err f) = Err (client_fault_reading f)

-- one `connect` of the connector, and the client over its link
pub record ConnectsOver {S L : Type 0} (connector : connectors.Ghosts S L)
    (answers : L → Option (List Answer)) (old : S)
    (result : Result (WorkloadApiClient L NoInterceptor) WorkloadApiError) (new : S) : Type 0 where
  pub answer : Result L ClientFault
  pub connected : Connected connector answers old answer new
  pub read : result ≡ client_of answer

-- the same client, with the endpoint kept
abbrev pub with_endpoint : {L : Type 0} → Endpoint
    → Result (WorkloadApiClient L NoInterceptor) WorkloadApiError
    → Result (WorkloadApiClient L NoInterceptor) WorkloadApiError
with_endpoint endpoint (Ok client) = Ok (record client { endpoint = Some endpoint })
with_endpoint endpoint (Err e) = Err e

-- one `connect` of the connector, and the client over its link with the endpoint kept
pub record ConnectsKeeping {S L : Type 0} (connector : connectors.Ghosts S L)
    (answers : L → Option (List Answer)) (old : S) (endpoint : Endpoint)
    (result : Result (WorkloadApiClient L NoInterceptor) WorkloadApiError) (new : S) : Type 0 where
  pub over : Result (WorkloadApiClient L NoInterceptor) WorkloadApiError
  pub connects : ConnectsOver connector answers old over new
  pub kept : result ≡ with_endpoint endpoint over

-- a connector to the endpoint, which refuses no text, connects once
pub record ConnectsTo {S L : Type 0} (connector : connectors.Ghosts S L)
    (answers : L → Option (List Answer)) (endpoint : Endpoint)
    (result : Result (WorkloadApiClient L NoInterceptor) WorkloadApiError) : Type 0 where
  pub made : S
  pub valid : connector.validates made ≡ Ok tt
  pub left : S
  pub connects : ConnectsKeeping connector answers made endpoint result left

-- the same, unless memory ran out before
abbrev pub IsConnected : {S L : Type 0} → connectors.Ghosts S L → (L → Option (List Answer))
    → Endpoint → Result (WorkloadApiClient L NoInterceptor) WorkloadApiError → Type 0
IsConnected connector answers endpoint result = (result ≡ Err api.OutOfMemory)
    ⊎ ConnectsTo connector answers endpoint result

-- a client of the endpoint that was read, or the error of reading it
abbrev pub IsConnectedTo : {S L : Type 0} → connectors.Ghosts S L → (L → Option (List Answer))
    → Result Endpoint WorkloadApiError
    → Result (WorkloadApiClient L NoInterceptor) WorkloadApiError → Type 0
IsConnectedTo connector answers (Ok endpoint) result =
    IsConnected connector answers endpoint result
IsConnectedTo connector answers (Err e) result = result ≡ Err e

-- the endpoint is read from the variable's value, and then connected to
pub record ReadsAndConnects {S L : Type 0} (connector : connectors.Ghosts S L)
    (answers : L → Option (List Answer)) (value : Option EnvValue)
    (result : Result (WorkloadApiClient L NoInterceptor) WorkloadApiError) : Type 0 where
  pub endpoint : Result Endpoint WorkloadApiError
  pub reads : ReadsEndpoint value endpoint
  pub connects : IsConnectedTo connector answers endpoint result
