-- What becomes of headers.
use Rattle.std.specs.Prelude.{◌≡◌, List, Option, None, Some, Result, Ok, Err}
use Rattle.std.specs.Borrow.{MutBor}
use Rattle.std.specs.Fn.{Shared, FnReturns}
use Rattle.spf_api.specs.Refused.{Refused}
use Rattle.spf_link.specs.Headers.{Header}
use Rattle.spf_link.specs.declared.interceptor.InterceptorFault.{InterceptorFault}
use Rattle.spf_link.specs.declared.interceptor.InterceptorFault.TheVariants as failures

-- the status of a refusal, where there is one, and the headers that are left
pub record Intercepted : Type 0 where
  pub refusal : Option Refused
  pub headers : List Header

-- the call says so and leaves these headers, unless memory ran out
abbrev pub IsIntercepted : {T : Type 0} → Intercepted → List Header → Result T InterceptorFault
    → Type 0
IsIntercepted i left (Ok done) = (i.refusal ≡ None) × (left ≡ i.headers)
IsIntercepted i left (Err (failures.Status s)) = (i.refusal ≡ Some s) × (left ≡ i.headers)
IsIntercepted i left (Err failures.OutOfMemory) = Unit {0}

-- the closure returns and leaves what the function gives, unless memory ran out
abbrev pub InterceptsBy : {F : Type 0} → Shared F (MutBor (List Header) × Unit {0})
    (Result (Unit {0}) InterceptorFault × (MutBor (List Header) × Unit {0})) → F
    → (List Header → Intercepted) → Type 0
InterceptsBy g f function =
    (before after : MutBor (List Header)) (result : Result (Unit {0}) InterceptorFault)
    → FnReturns g f (before, tt) (result, (after, tt))
    → IsIntercepted (function before.now) after.now result
