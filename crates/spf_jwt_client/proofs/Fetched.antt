-- A fetch whose first ask is its last, and one of two asks.
use Rattle.std.proofs.Common.{◌≡◌, Bool, true, false, Some, None, Result, refl, sym}
use Rattle.std.proofs.Common.{subst}
use Rattle.spf_io.specs.Rule.{broken_as}
use Rattle.spf_link.specs.declared.connector.Connector as connectors
use Rattle.spf_link.specs.declared.link.Link as links
use Rattle.spf_link.specs.declared.request.Request.{Request}
use Rattle.spf_jwt.specs.Token.{Svid}
use Rattle.spf_jwt_feed.specs.declared.state.JwtSourceError.{JwtSourceError}
use Rattle.spf_jwt_client.specs.Fetching.{Fetcher, AsksOnce, Ends, FetchesJwt, fault_error}
use Rattle.spf_jwt_client.specs.Fetching.{forgotten}
use Rattle.spf_jwt_client.specs.Fetching.{is_asked_again, settled_by}
use Rattle.spf_jwt_client.specs.declared.fault.AskFault.{AskFault}

not_again : (again : Bool) (last result : Result Svid JwtSourceError)
    → settled_by again last ≡ Some result → again ≡ false
not_again true last result is = absurd cc
not_again false last result is = refl

returned_first : (again : Bool) (last result : Result Svid JwtSourceError)
    → settled_by again last ≡ Some result → result ≡ last
returned_first true last result is = absurd cc
returned_first false last result is = cc

is_again : (again : Bool) (last : Result Svid JwtSourceError) → settled_by again last ≡ None
    → again ≡ true
is_again true last is = refl
is_again false last is = absurd cc

module _ {S L : Type 0} (connector : connectors.Ghosts S L) (link : links.Ghosts L)
    (request : Request) where
  pub fetched_at_once : (old new : Fetcher S L) (first : Result Svid AskFault)
      (result : Result Svid JwtSourceError) → AsksOnce connector link request old first new
      → settled_by (is_asked_again first) (broken_as fault_error first) ≡ Some result
      → FetchesJwt connector link request old result new
  fetched_at_once old new first result asks settled =
      let again = is_asked_again first in
      let last = broken_as fault_error first in
      record {
        first = first;
        mid = new;
        asks = asks;
        ends = subst (λ b. Ends connector link request b first new result new)
            (sym (not_again again last result settled))
            (record { returned = returned_first again last result settled; same = refl });
      }

  pub fetched_again : (old mid new : Fetcher S L) (first second : Result Svid AskFault)
      (result : Result Svid JwtSourceError) → AsksOnce connector link request old first mid
      → settled_by (is_asked_again first) (broken_as fault_error first) ≡ None
      → AsksOnce connector link request (forgotten mid) second new
      → result ≡ broken_as fault_error second
      → FetchesJwt connector link request old result new
  fetched_again old mid new first second result asks settled again last =
      record {
        first = first;
        mid = mid;
        asks = asks;
        ends = subst (λ b. Ends connector link request b first mid result new)
            (sym (is_again (is_asked_again first) (broken_as fault_error first) settled))
            (record { second = second; asks = again; returned = last });
      }
