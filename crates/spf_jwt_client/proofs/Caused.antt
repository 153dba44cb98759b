-- The count of a connector never falls in a fetch, and it rose where no client could be made.
use Rattle.std.proofs.Common.{◌≡◌, ◌≤◌, ℕ, true, false, Bool, Option, Some, None}
use Rattle.std.proofs.Common.{Result, Ok, Err, refl, sym, ap, subst, arith, inl, inr}
use Rattle.spf_io.specs.Outside.{Rose}
use Rattle.spf_io.specs.Rule.{broken_as}
use Rattle.spf_api.specs.declared.error.WorkloadApiError.{WorkloadApiError}
use Rattle.spf_api.specs.declared.error.WorkloadApiError.TheVariants as api
use Rattle.spf_api.specs.declared.link.ClientFault.{ClientFault}
use Rattle.spf_api.specs.declared.link.ClientFault.TheVariants as client
use Rattle.spf_link.specs.Connecting.{HasClientCause}
use Rattle.spf_link.specs.declared.connector.Connector as connectors
use Rattle.spf_link.specs.declared.link.Link as links
use Rattle.spf_link.specs.declared.request.Request.{Request}
use Rattle.spf_client.specs.Connecting.{client_of}
use Rattle.spf_jwt.specs.Token.{Svid}
use Rattle.spf_jwt_feed.specs.States.{source_of_api}
use Rattle.spf_jwt_feed.specs.declared.state.JwtSourceError.{JwtSourceError}
use Rattle.spf_jwt_client.specs.Fetching.{Fetcher, Client, Obtains, AsksOnce, AsksOver, FetchesJwt}
use Rattle.spf_jwt_client.specs.Fetching.{IsOfConnector, HasFetchCause, Ends, fault_error}
use Rattle.spf_jwt_client.specs.Fetching.{fetch_error, is_asked_again}
use Rattle.spf_jwt_client.specs.declared.fault.AskFault.{AskFault}
use Rattle.spf_jwt_client.specs.declared.fault.AskFault.TheVariants.{Failed}

err_same : {T : Type 0} (d e : WorkloadApiError) (r s : Result T WorkloadApiError) → r ≡ Err d
    → s ≡ Err e → r ≡ s → d ≡ e
err_same d e r s is are same = cc

-- an error of an ask that had a client is not of the connector
not_of_connector : (e : WorkloadApiError) → IsOfConnector {T = Svid} (Err (fetch_error e)) → ⊥
not_of_connector api.OutOfMemory is = is
not_of_connector _ is = is

later_rose : (a b c : ℕ) → a ≤ b → Rose b c → Rose a c
later_rose a b c le (inl lt) = inl (omega arith)
later_rose a b c le (inr max) = inr max

module _ {S L : Type 0} (connector : connectors.Ghosts S L) (link : links.Ghosts L) where
  obtained_later : (old : S) (kept : Option (Client L))
      (client : Result (Client L) WorkloadApiError) (mid : S)
      → Obtains connector link old kept client mid
      → connector.refusals old ≤ connector.refusals mid
  obtained_later old (Some k) client mid obtains =
      let same : connector.refusals mid ≡ connector.refusals old =
      ap connector.refusals obtains.1 in omega arith
  obtained_later old None client mid obtains = obtains.connected.cause.later

  -- without a client the connector refused, unless memory ran out
  refused : (answer : Result L ClientFault) (before now : ℕ) → HasClientCause before now answer
      → (e : WorkloadApiError) → Err e ≡ client_of answer
      → IsOfConnector {T = Svid} (Err (source_of_api e)) → Rose before now
  refused (Ok made) before now cause e read is = absurd cc
  refused (Err client.OutOfMemory) before now cause e read is =
      let same : e ≡ api.OutOfMemory = err_same e api.OutOfMemory _ _ refl refl read in
      absurd (subst (λ x. IsOfConnector {T = Svid} (Err (source_of_api x))) same is)
  refused (Err (client.Status s)) before now cause e read is = cause.refused tt
  refused (Err (client.Unreachable text)) before now cause e read is = cause.refused tt

  no_client : (old : S) (kept : Option (Client L)) (e : WorkloadApiError) (mid : S)
      → Obtains connector link old kept (Err e) mid
      → IsOfConnector {T = Svid} (Err (source_of_api e))
      → Rose (connector.refusals old) (connector.refusals mid)
  no_client old (Some k) e mid obtains is = let none : Err e ≡ Ok k = obtains.0 in absurd cc
  no_client old None e mid obtains is =
      refused obtains.answer _ _ obtains.connected.cause e obtains.read is

  -- an ask that had a client did not fail for the connector
  had_client : (answer : Result Svid WorkloadApiError)
      → IsOfConnector (broken_as fault_error (broken_as Failed answer)) → ⊥
  had_client (Ok svid) is = is
  had_client (Err e) is = not_of_connector e is

  module _ (request : Request) where
    asked_over : (client : Result (Client L) WorkloadApiError) (old mid : S)
        (result : Result Svid AskFault) (new : Fetcher S L)
        → connector.refusals old ≤ connector.refusals mid
        → ((e : WorkloadApiError) → client ≡ Err e
        → IsOfConnector {T = Svid} (Err (source_of_api e))
        → Rose (connector.refusals old) (connector.refusals mid))
        → AsksOver link request client mid result new
        → HasFetchCause (connector.refusals old) (connector.refusals new.connector)
        (broken_as fault_error result)
    asked_over (Ok c) old mid result new later rose asks =
        let same : connector.refusals new.connector ≡ connector.refusals mid =
        ap (λ (h : Fetcher S L). connector.refusals h.connector) asks.kept in
        record {
          later = subst (λ n. connector.refusals old ≤ n) (sym same) later;
          refused = λ is. absurd (had_client asks.answer
              (subst (λ r. IsOfConnector (broken_as fault_error r)) asks.returned is));
        }
    asked_over (Err e) old mid result new later rose asks =
        let same : connector.refusals new.connector ≡ connector.refusals mid =
        ap (λ (h : Fetcher S L). connector.refusals h.connector) asks.none in
        record {
          later = subst (λ n. connector.refusals old ≤ n) (sym same) later;
          refused = λ is. subst (λ n. Rose (connector.refusals old) n) (sym same)
              (rose e refl (subst (λ r. IsOfConnector (broken_as fault_error r)) asks.returned is));
        }

    asked : (old new : Fetcher S L) (result : Result Svid AskFault)
        → AsksOnce connector link request old result new
        → HasFetchCause (connector.refusals old.connector) (connector.refusals new.connector)
        (broken_as fault_error result)
    asked old new result asks =
        asked_over asks.client old.connector asks.mid result new
        (obtained_later old.connector old.client asks.client asks.mid asks.obtains)
        (λ e none. no_client old.connector old.client e asks.mid
        (subst (λ c. Obtains connector link old.connector old.client c asks.mid) none
        asks.obtains))
        asks.asks

    ended : (again : Bool) (old mid new : Fetcher S L) (first : Result Svid AskFault)
        (result : Result Svid JwtSourceError)
        → HasFetchCause (connector.refusals old.connector) (connector.refusals mid.connector)
        (broken_as fault_error first)
        → Ends connector link request again first mid result new
        → HasFetchCause (connector.refusals old.connector) (connector.refusals new.connector) result
    ended false old mid new first result cause ends =
        subst (λ r. HasFetchCause (connector.refusals old.connector)
        (connector.refusals new.connector) r) (sym ends.returned)
        (subst (λ (h : Fetcher S L). HasFetchCause (connector.refusals old.connector)
        (connector.refusals h.connector) (broken_as fault_error first)) (sym ends.same) cause)
    ended true old mid new first result cause ends =
        let last = asked _ new ends.second ends.asks in
        subst (λ r. HasFetchCause (connector.refusals old.connector)
        (connector.refusals new.connector) r) (sym ends.returned)
        (record {
          later = let a = cause.later in let b = last.later in omega arith;
          refused = λ is. later_rose _ _ _ cause.later (last.refused is);
        })

    pub fetch_caused : (old new : Fetcher S L) (result : Result Svid JwtSourceError)
        → FetchesJwt connector link request old result new
        → HasFetchCause (connector.refusals old.connector) (connector.refusals new.connector) result
    fetch_caused old new result fetch =
        ended (is_asked_again fetch.first) old fetch.mid new fetch.first result
        (asked old fetch.mid fetch.first fetch.asks) fetch.ends
