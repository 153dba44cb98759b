-- The header of the Workload API.
use Rattle.std.specs.Prelude.{◌≡◌, List, codes, Option, None, Some, Result, Ok, Err}
use Rattle.spf_api.specs.Errors.{status_reading}
use Rattle.spf_api.specs.Refused.{Refused}
use Rattle.spf_api.specs.declared.error.WorkloadApiError.{WorkloadApiError}
use Rattle.spf_api.specs.declared.error.WorkloadApiError.TheVariants as api
use Rattle.spf_link.specs.Headers.{Header, with_header}
use Rattle.spf_link.specs.Interceptor.{Intercepted}

-- the header of the Workload API, set after all others
abbrev pub with_metadata : List Header → List Header
with_metadata headers = with_header (codes "workload.spiffe.io") (codes "true") headers

-- a refusal reads as its status, and the headers are as the interceptor left them
abbrev pub IsRefusedAs : Option Refused → List Header → List Header → WorkloadApiError → Type 0
IsRefusedAs None left headers e = ⊥
IsRefusedAs (Some s) left headers e = (e ≡ status_reading s) × (left ≡ headers)

-- the status of the interceptor, or its headers with that of the Workload API; where memory ran out
-- the headers are as they were
abbrev pub IsAdded : {T : Type 0} → List Header → Intercepted → List Header
    → Result T WorkloadApiError → Type 0
IsAdded before i left (Ok done) = (i.refusal ≡ None) × (left ≡ with_metadata i.headers)
IsAdded before i left (Err api.OutOfMemory) = left ≡ before
IsAdded before i left (Err e) = IsRefusedAs i.refusal left i.headers e
