-- What a stream begins with, and what becomes of the client that it borrows.
use Rattle.std.specs.Prelude.{◌≡◌, Bool, false, Result, Ok, Err, MatchResult}
use Rattle.std.specs.Borrow.{Fml, GName, MutBor, RattleType, RestsIfErr}
use Rattle.spf_api.specs.declared.error.WorkloadApiError.{WorkloadApiError}
use Rattle.spf_link.specs.Interceptor.{Intercepted}
use Rattle.spf_link.specs.declared.link.Link as links
use Rattle.spf_link.specs.declared.request.Request.{Request}
use Rattle.spf_client.specs.Asking.{Begins}
use Rattle.spf_client.specs.declared.client.WorkloadApiClient.{WorkloadApiClient}
use Rattle.spf_client.specs.contracts.client.WorkloadApiClient.{the_row}

-- the request was begun, and the client is as it was but for its link
pub record LeavesClient {L I : Type 0} (link : links.Ghosts L) (made : Intercepted)
    (request : Request) (old : WorkloadApiClient L I) (begun : Result (Unit {0}) WorkloadApiError)
    (new : WorkloadApiClient L I) : Type 0 where
  pub begins : Begins link made request old.link begun new.link
  pub kept : new ≡ record old { link = new.link }

-- the stream is over the client, after a request that began, and has not ended
pub record OpensStream {L I : Type 0} (link : links.Ghosts L) (made : Intercepted)
    (request : Request) (old new : WorkloadApiClient L I) (ended : Bool) : Type 0 where
  pub begun : LeavesClient link made request old (Ok tt) new
  pub goes_on : ended ≡ false

module _ (L I : RattleType) (link : links.Ghosts L.Denot) (made : Intercepted) (request : Request)
    (client : MutBor (WorkloadApiClient L.Denot I.Denot)) where
  -- where there is no stream, beginning the request failed
  abbrev pub EndsInVain : {T : Type 0} → Result T WorkloadApiError
      → WorkloadApiClient L.Denot I.Denot → Type 0
  EndsInVain result end = MatchResult result (λ _. Unit {0})
      (λ e. LeavesClient link made request client.now (Err e) end)

  -- the client ends as the stream leaves it, where `name` names the client of a stream
  abbrev pub LendsClient : {T : Type 0} → (T → GName) → Result T WorkloadApiError → Fml
  LendsClient name result = RestsIfErr (the_row L I) client name result (EndsInVain result)
