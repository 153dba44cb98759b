-- What refusals have for a cause.
use Rattle.std.specs.Prelude.{◌≡◌, ◌⊎◌, List, Bool, true, false, IsTrue, Option, Some, Result, Err}
use Rattle.std.specs.declared.alloc.Global.{Global}
use Rattle.std.specs.declared.vec.Vec.{Vec}
use Rattle.spf_io.specs.Outside.{Rose}
use Rattle.spf_api.specs.Errors.{status_reading}
use Rattle.spf_api.specs.Refused.{Refused}
use Rattle.spf_api.specs.declared.error.WorkloadApiError.{WorkloadApiError}
use Rattle.spf_api.specs.declared.error.WorkloadApiError.TheVariants as api
use Rattle.spf_api.specs.declared.response.Response.{Response}
use Rattle.spf_link.specs.Interceptor.{Intercepted}
use Rattle.spf_link.specs.declared.link.Link as links
use Rattle.spf_link.specs.declared.request.Request.{Request}
use Rattle.spf_client.specs.Asking.{Fetches}

-- an error by which a link or an interceptor refuses, and no rule of a response
abbrev pub is_refusal : WorkloadApiError → Bool
is_refusal api.NoIdentityIssued = true
is_refusal (api.PermissionDenied message) = true
is_refusal (api.Transport e) = true
is_refusal _ = false

-- what a vector holds
abbrev pub vec_items : {T : Type 0} → Vec T Global → List T
vec_items v = v.items

-- the interceptor refused with the status that the error stands for
pub record IsOfInterceptor (refusal : Option Refused) (e : WorkloadApiError) : Type 0 where
  pub status : Refused
  pub refused : refusal ≡ Some status
  pub read : e ≡ status_reading status

-- a fetch returns such an error only where the interceptor refused with its status, or where the
-- count of the link rose
abbrev pub RefusalsHaveCauses : {S R X Y : Type 0} → links.Ghosts S → (R → Response)
    → (R → Result Y WorkloadApiError) → (X → Y) → Type 0
RefusalsHaveCauses {S} {R} {X} {Y} link of_kind rule view =
    (made : Intercepted) (request : Request) (old new : S) (result : Result X WorkloadApiError)
    (e : WorkloadApiError)
    → Fetches link made request of_kind rule view old result new → result ≡ Err e
    → IsTrue (is_refusal e)
    → IsOfInterceptor made.refusal e ⊎ Rose (link.refusals old) (link.refusals new)
