-- One call of a link or of a connector of any kind, by all that its contract says.
use Rattle.std.specs.Prelude.{◌≡◌, List, Option, Some, Result, IfOk, IfSome}
use Rattle.spf_api.specs.Payload.{kind_of}
use Rattle.spf_api.specs.declared.link.ClientFault.{ClientFault}
use Rattle.spf_api.specs.declared.link.LinkFault.{LinkFault}
use Rattle.spf_api.specs.declared.response.Response.{Response}
use Rattle.spf_link.specs.Connecting.{Connects, HasClientCause}
use Rattle.spf_link.specs.Links.{HasLinkCause, StartAppends, Takes, started_by, next_by}
use Rattle.spf_link.specs.Request.{answered_by}
use Rattle.spf_link.specs.declared.answer.Answer.{Answer}
use Rattle.spf_link.specs.declared.connector.Connector as connectors
use Rattle.spf_link.specs.declared.link.Link as links
use Rattle.spf_link.specs.declared.request.Start.{Start}

-- one `start` was called with these headers and this request
pub record Starts {S : Type 0} (link : links.Ghosts S) (old : S) (start : Start)
    (result : Result (Unit {0}) LinkFault) (new : S) : Type 0 where
  pub gives : link.start_gives old start result new
  pub cause : HasLinkCause (link.refusals old) (link.refusals new) result
  pub starts : StartAppends (link.starts old) (link.starts new) result start
  pub kind : IfOk result (λ _. link.kind new ≡ Some (answered_by start.request))
  pub answers : Takes (link.answers old) (link.answers new) started_by result

-- one `next` was called
pub record Nexts {S : Type 0} (link : links.Ghosts S) (old : S)
    (result : Result (Option Response) LinkFault) (new : S) : Type 0 where
  pub gives : link.next_gives old result new
  pub cause : HasLinkCause (link.refusals old) (link.refusals new) result
  pub starts : link.starts new ≡ link.starts old
  pub kind : IfOk result (λ o. IfSome o (λ r. link.kind old ≡ Some (kind_of r)))
  pub same_kind : link.kind new ≡ link.kind old
  pub answers : Takes (link.answers old) (link.answers new) (next_by (link.kind old)) result

-- one `connect` was called, where `answers` says the answers to come of a link
pub record Connected {S L : Type 0} (connector : connectors.Ghosts S L)
    (answers : L → Option (List Answer)) (old : S) (result : Result L ClientFault) (new : S) :
    Type 0 where
  pub gives : connector.connect_gives old result new
  pub cause : HasClientCause (connector.refusals old) (connector.refusals new) result
  pub validates : connector.validates new ≡ connector.validates old
  pub members : Connects answers (connector.members old) (connector.members new) result
