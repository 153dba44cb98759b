-- What a client does with its link for one request: at most one `start`, and at most one `next`
-- after it.
use Rattle.std.specs.Prelude.{◌≡◌, ◌⊎◌, Option, None, Some, Result, Ok, Err}
use Rattle.spf_io.specs.Rule.{broken_as}
use Rattle.spf_api.specs.Errors.{status_reading}
use Rattle.spf_api.specs.Refused.{Refused}
use Rattle.spf_api.specs.declared.error.WorkloadApiError.{WorkloadApiError}
use Rattle.spf_api.specs.declared.error.WorkloadApiError.TheVariants as api
use Rattle.spf_api.specs.declared.link.LinkFault.{LinkFault}
use Rattle.spf_api.specs.declared.response.Response.{Response}
use Rattle.spf_link.specs.Asked.{Starts, Nexts}
use Rattle.spf_link.specs.Interceptor.{Intercepted}
use Rattle.spf_link.specs.Metadata.{with_metadata}
use Rattle.spf_link.specs.declared.link.Link as links
use Rattle.spf_link.specs.declared.request.Request.{Request}
use Rattle.spf_client.specs.Reading.{fault_reading, first_response_of, ReadsFirst}

-- why a request is not sent: the interceptor refuses it, or memory runs out
abbrev pub IsUnsentBy : {T : Type 0} → Option Refused → Result T WorkloadApiError → Type 0
IsUnsentBy refusal (Ok x) = ⊥
IsUnsentBy refusal (Err api.OutOfMemory) = Unit {0}
IsUnsentBy (Some s) (Err e) = e ≡ status_reading s
IsUnsentBy None (Err e) = ⊥

-- a request that is not sent leaves the link as it was
pub record IsUnsent {S : Type 0} (made : Intercepted) (old : S)
    (result : Result (Unit {0}) WorkloadApiError) (new : S) : Type 0 where
  pub why : IsUnsentBy made.refusal result
  pub untouched : new ≡ old

-- one `start` with the headers that the interceptor makes, and after them that of the Workload API
pub record IsSent {S : Type 0} (link : links.Ghosts S) (made : Intercepted) (request : Request)
    (old : S) (result : Result (Unit {0}) WorkloadApiError) (new : S) : Type 0 where
  pub allowed : made.refusal ≡ None
  pub answer : Result (Unit {0}) LinkFault
  pub started : Starts link old (record { headers = with_metadata made.headers; request = request })
      answer new
  pub read : result ≡ broken_as fault_reading answer

-- a request is begun, where `made` is what the interceptor makes of no headers
abbrev pub Begins : {S : Type 0} → links.Ghosts S → Intercepted → Request → S
    → Result (Unit {0}) WorkloadApiError → S → Type 0
Begins link made request old result new = IsUnsent made old result new
    ⊎ IsSent link made request old result new

-- after a request that began, one `next`
abbrev pub TakesFirst : {S : Type 0} → links.Ghosts S → S → Result (Unit {0}) WorkloadApiError
    → Result Response WorkloadApiError → S → Type 0
TakesFirst link mid (Err e) result new = (result ≡ Err e) × (new ≡ mid)
TakesFirst link mid (Ok _) result new = (answer : Result (Option Response) LinkFault)
    × Nexts link mid answer new × (result ≡ first_response_of answer)

-- a request is begun, and its first response taken
pub record Asks {S : Type 0} (link : links.Ghosts S) (made : Intercepted) (request : Request)
    (old : S) (result : Result Response WorkloadApiError) (new : S) : Type 0 where
  pub begun : Result (Unit {0}) WorkloadApiError
  pub mid : S
  pub begins : Begins link made request old begun mid
  pub takes : TakesFirst link mid begun result new

-- a request is begun, and its first response read by the rule of its kind
pub record Fetches {S R X Y : Type 0} (link : links.Ghosts S) (made : Intercepted)
    (request : Request) (of_kind : R → Response) (rule : R → Result Y WorkloadApiError)
    (view : X → Y) (old : S) (result : Result X WorkloadApiError) (new : S) : Type 0 where
  pub first : Result Response WorkloadApiError
  pub asks : Asks link made request old first new
  pub reads : ReadsFirst of_kind rule view first result
