-- What a fetcher of JWT-SVIDs asks, and what it returns. It keeps a client. An ask goes over the
-- kept client, or over a new one where none is kept. After an ask that failed for a reason of the
-- connection the client is dropped, and there is one more ask.
use Rattle.std.specs.Prelude.{◌≡◌, ℕ, ◌≤◌, [], Bool, true, false, Option, None, Some}
use Rattle.std.specs.Prelude.{Result, Ok, Err}
use Rattle.spf_io.specs.Outside.{Rose}
use Rattle.spf_io.specs.Rule.{broken_as}
use Rattle.spf_api.specs.declared.error.WorkloadApiError.{WorkloadApiError}
use Rattle.spf_api.specs.declared.error.WorkloadApiError.TheVariants as api
use Rattle.spf_api.specs.declared.response.Response.TheVariants as response
use Rattle.spf_api.specs.declared.status.GrpcStatusCode.{GrpcStatusCode}
use Rattle.spf_api.specs.declared.status.GrpcStatusCode.TheVariants as code
use Rattle.spf_api.specs.declared.status.TransportError.{TransportError}
use Rattle.spf_api.specs.declared.status.TransportError.TheVariants as transport
use Rattle.spf_link.specs.Interceptor.{Intercepted}
use Rattle.spf_link.specs.declared.connector.Connector as connectors
use Rattle.spf_link.specs.declared.interceptor.NoInterceptor.{NoInterceptor}
use Rattle.spf_link.specs.declared.link.Link as links
use Rattle.spf_link.specs.declared.request.Request.{Request}
use Rattle.spf_client.specs.Asking.{Fetches}
use Rattle.spf_client.specs.Connecting.{ConnectsOver}
use Rattle.spf_client.specs.declared.client.WorkloadApiClient.{WorkloadApiClient}
use Rattle.spf_jwt.specs.Selected.{first_jwt_svid_of}
use Rattle.spf_jwt.specs.Token.{Svid}
use Rattle.spf_jwt_feed.specs.States.{source_of_api}
use Rattle.spf_jwt_feed.specs.declared.state.JwtSourceError.{JwtSourceError}
use Rattle.spf_jwt_feed.specs.declared.state.JwtSourceError.TheVariants as errors
use Rattle.spf_jwt_client.specs.declared.fault.AskFault.{AskFault}
use Rattle.spf_jwt_client.specs.declared.fault.AskFault.TheVariants.{NoClient, Failed}

-- a client that sends no headers of its own
abbrev pub Client : Type 0 → Type 0
Client L = WorkloadApiClient L NoInterceptor

-- a connector, and the client that is kept
pub record Fetcher (S L : Type 0) : Type 0 where
  pub connector : S
  pub client : Option (Client L)

-- no header of its own is added, and no request refused
abbrev pub untouched : Intercepted
untouched = record { refusal = None; headers = [] }

-- a status of the connection: the same request over another one may succeed
abbrev pub is_transient_code : GrpcStatusCode → Bool
is_transient_code code.Cancelled = true
is_transient_code code.DeadlineExceeded = true
is_transient_code code.Unavailable = true
is_transient_code _ = false

abbrev pub is_transient_transport : TransportError → Bool
is_transient_transport (transport.Connect source) = true
is_transient_transport (transport.Status s) = is_transient_code s.code
is_transient_transport _ = false

abbrev pub is_transient : WorkloadApiError → Bool
is_transient (api.Transport e) = is_transient_transport e
is_transient _ = false

-- whether there is a second ask: after an error of the first one that is of the connection
abbrev pub is_asked_again : {T : Type 0} → Result T AskFault → Bool
is_asked_again (Err (Failed e)) = is_transient e
is_asked_again _ = false

-- the client of an ask: the kept one, or one over the link of one `connect`
abbrev pub Obtains : {S L : Type 0} → connectors.Ghosts S L → links.Ghosts L → S
    → Option (Client L) → Result (Client L) WorkloadApiError → S → Type 0
Obtains connector link old (Some kept) result new = (result ≡ Ok kept) × (new ≡ old)
Obtains connector link old None result new = ConnectsOver connector link.answers old result new

-- one fetch over a client, which is kept
pub record AsksClient {S L : Type 0} (link : links.Ghosts L) (request : Request) (client : Client L)
    (connector : S) (result : Result Svid AskFault) (new : Fetcher S L) : Type 0 where
  pub answer : Result Svid WorkloadApiError
  pub left : L
  pub fetches : Fetches link untouched request response.JwtSvids first_jwt_svid_of (λ (s : Svid). s)
      client.link answer left
  pub returned : result ≡ broken_as Failed answer
  pub kept : new ≡ record
      { connector = connector; client = Some (record client { link = left }) }

-- without a client nothing is asked, and none is kept
pub record HasNoClient {S L : Type 0} (e : WorkloadApiError) (connector : S)
    (result : Result Svid AskFault) (new : Fetcher S L) : Type 0 where
  pub returned : result ≡ Err (NoClient e)
  pub none : new ≡ record { connector = connector; client = None }

abbrev pub AsksOver : {S L : Type 0} → links.Ghosts L → Request
    → Result (Client L) WorkloadApiError → S → Result Svid AskFault → Fetcher S L → Type 0
AsksOver link request (Ok client) connector result new =
    AsksClient link request client connector result new
AsksOver link request (Err e) connector result new = HasNoClient e connector result new

-- one ask
pub record AsksOnce {S L : Type 0} (connector : connectors.Ghosts S L) (link : links.Ghosts L)
    (request : Request) (old : Fetcher S L) (result : Result Svid AskFault) (new : Fetcher S L) :
    Type 0 where
  pub client : Result (Client L) WorkloadApiError
  pub mid : S
  pub obtains : Obtains connector link old.connector old.client client mid
  pub asks : AsksOver link request client mid result new

-- an error of an ask: out of memory stays out of memory
abbrev pub fetch_error : WorkloadApiError → JwtSourceError
fetch_error api.OutOfMemory = errors.OutOfMemory
fetch_error e = errors.FetchJwtSvid e

abbrev pub fault_error : AskFault → JwtSourceError
fault_error (NoClient e) = source_of_api e
fault_error (Failed e) = fetch_error e

-- the result of a fetch by its first ask, where there is no second one
abbrev pub settled_by : Bool → Result Svid JwtSourceError → Option (Result Svid JwtSourceError)
settled_by true returned = None
settled_by false returned = Some returned

-- the same with no client kept
abbrev pub forgotten : {S L : Type 0} → Fetcher S L → Fetcher S L
forgotten held = record held { client = None }

-- the second ask is over a new client, and is the last one
pub record AsksAgain {S L : Type 0} (connector : connectors.Ghosts S L) (link : links.Ghosts L)
    (request : Request) (old : Fetcher S L) (result : Result Svid JwtSourceError)
    (new : Fetcher S L) : Type 0 where
  pub second : Result Svid AskFault
  pub asks : AsksOnce connector link request (forgotten old) second new
  pub returned : result ≡ broken_as fault_error second

-- the first ask is the last one
pub record AsksNoMore {S L : Type 0} (first : Result Svid AskFault) (mid : Fetcher S L)
    (result : Result Svid JwtSourceError) (new : Fetcher S L) : Type 0 where
  pub returned : result ≡ broken_as fault_error first
  pub same : new ≡ mid

abbrev pub Ends : {S L : Type 0} → connectors.Ghosts S L → links.Ghosts L → Request → Bool
    → Result Svid AskFault → Fetcher S L → Result Svid JwtSourceError → Fetcher S L → Type 0
Ends connector link request true first mid result new =
    AsksAgain connector link request mid result new
Ends connector link request false first mid result new = AsksNoMore first mid result new

-- a fetch: one ask, and a second one where the first failed for a reason of the connection
pub record FetchesJwt {S L : Type 0} (connector : connectors.Ghosts S L) (link : links.Ghosts L)
    (request : Request) (old : Fetcher S L) (result : Result Svid JwtSourceError)
    (new : Fetcher S L) : Type 0 where
  pub first : Result Svid AskFault
  pub mid : Fetcher S L
  pub asks : AsksOnce connector link request old first mid
  pub ends : Ends connector link request (is_asked_again first) first mid result new

-- no client could be made
abbrev pub IsOfConnector : {T : Type 0} → Result T JwtSourceError → Type 0
IsOfConnector (Err (errors.Source e)) = Unit {0}
IsOfConnector _ = ⊥

-- the count of the connector never falls, and without a client it rose
pub record HasFetchCause {T : Type 0} (before now : ℕ) (result : Result T JwtSourceError) :
    Type 0 where
  pub later : before ≤ now
  pub refused : IsOfConnector result → Rose before now
