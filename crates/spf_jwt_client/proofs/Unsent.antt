-- A request that is not made, since memory ran out, is not sent.
use Rattle.std.proofs.Common.{Option, Some, None, Err, refl, inl}
use Rattle.spf_api.specs.Refused.{Refused}
use Rattle.spf_api.specs.declared.error.WorkloadApiError.TheVariants as api
use Rattle.spf_link.specs.Interceptor.{Intercepted}
use Rattle.spf_link.specs.declared.link.Link as links
use Rattle.spf_link.specs.declared.request.Request.{Request}
use Rattle.spf_client.specs.Asking.{Asks, IsUnsentBy}

no_cause : (refusal : Option Refused) → IsUnsentBy {T = Unit {0}} refusal (Err api.OutOfMemory)
no_cause None = tt
no_cause (Some s) = tt

pub unsent : {S : Type 0} (link : links.Ghosts S) (made : Intercepted) (request : Request) (old : S)
    → Asks link made request old (Err api.OutOfMemory) old
unsent link made request old =
    record {
      begun = Err api.OutOfMemory;
      mid = old;
      begins = inl (record { why = no_cause made.refusal; untouched = refl });
      takes = (refl, refl);
    }
