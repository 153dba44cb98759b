-- One ask of a connector or of its link, and the event that it yields.
use Rattle.std.specs.Prelude.{◌≡◌, ℕ, List, [], ◌++◌, codes, Option, None, Some, Result, Ok, Err}
use Rattle.std.specs.Prelude.{IfOk, IsErr, ◌⊎◌, Bool, true, false}
use Rattle.std.specs.Option.{option_map}
use Rattle.spf_api.specs.Refused.{Refused}
use Rattle.spf_api.specs.declared.link.ClientFault.{ClientFault}
use Rattle.spf_api.specs.declared.link.ClientFault.TheVariants as client
use Rattle.spf_api.specs.declared.link.LinkFault.{LinkFault}
use Rattle.spf_api.specs.declared.link.LinkFault.TheVariants as fault
use Rattle.spf_api.specs.declared.response.ContextResponse.{ContextResponse}
use Rattle.spf_api.specs.declared.response.Response.{Response}
use Rattle.spf_api.specs.declared.response.Response.TheVariants as response
use Rattle.spf_api.specs.declared.response.ResponseKind.{ResponseKind}
use Rattle.spf_api.specs.declared.status.GrpcStatusCode.TheVariants as code
use Rattle.spf_link.specs.Asked.{Starts, Nexts, Connected}
use Rattle.spf_link.specs.Request.{answered_by}
use Rattle.spf_link.specs.Metadata.{with_metadata}
use Rattle.spf_link.specs.declared.answer.Answer.{Answer}
use Rattle.spf_link.specs.declared.connector.Connector as connectors
use Rattle.spf_link.specs.declared.link.Link as links
use Rattle.spf_link.specs.declared.request.Request.TheVariants as request
use Rattle.spf_link.specs.declared.request.Start.{Start}
use Rattle.spf_feed.specs.declared.event.SessionEvent.{SessionEvent}
use Rattle.spf_feed.specs.declared.event.SessionEvent.TheVariants as events
use Rattle.spf_feed.specs.declared.phase.Phase.{Phase}
use Rattle.spf_feed.specs.declared.phase.Phase.TheVariants as phases
use Rattle.spf_feed.specs.Items.{value_of}

-- the displayed text of a connection that was lost or never made
abbrev pub connect_text : List ℕ → List ℕ
connect_text source = codes "gRPC transport connection failed: " ++ source

-- the status that a refusal of a link yields; none where memory ran out
abbrev pub refused_as : LinkFault → Option Refused
refused_as (fault.Status s) = Some s
refused_as (fault.Connect source) =
    Some (record { code = code.Unavailable; message = connect_text source; source = None })
refused_as fault.OutOfMemory = None

-- What a session asks of a link: how its stream starts, and the item that a response is.
pub record Wanted (I : Type 0) : Type 0 where
  pub start : Start
  pub item : Response → Option I

-- the kind of the responses
abbrev pub kind_wanted : {I : Type 0} → Wanted I → ResponseKind
kind_wanted wanted = answered_by wanted.start.request

-- the event that each call yields; none where memory ran out
abbrev pub yielded_by_connect : {I L : Type 0} → Result L ClientFault → Option (SessionEvent I)
yielded_by_connect (Ok link) = Some events.ClientMade
yielded_by_connect (Err client.OutOfMemory) = None
yielded_by_connect (Err f) = Some (events.ClientFailed f)

abbrev pub yielded_by_start : {I : Type 0} → Result (Unit {0}) LinkFault → Option (SessionEvent I)
yielded_by_start (Ok done) = Some events.Connected
yielded_by_start (Err f) = option_map events.ConnectStatus (refused_as f)

-- a response of another kind than the one that was asked for never comes
abbrev pub yielded_by_next : {I : Type 0} → (Response → Option I)
    → Result (Option Response) LinkFault → Option (SessionEvent I)
yielded_by_next item (Ok None) = Some events.StreamEnd
yielded_by_next item (Ok (Some r)) = option_map events.Item (item r)
yielded_by_next item (Err f) = option_map events.ItemStatus (refused_as f)

-- whether a client is asked for
abbrev pub is_client : Phase → Bool
is_client phases.Client = true
is_client _ = false

-- one `connect`, whose link takes the place of the one before
pub record ClientAsked {I S L E : Type 0} (connector : connectors.Ghosts S L)
    (answers : L → Option (List Answer)) (old : S) (result : Result (SessionEvent I) E) (new : S)
    (link : Option L) : Type 0 where
  pub answer : Result L ClientFault
  pub called : Connected connector answers old answer new
  pub yielded : IfOk result (λ e. yielded_by_connect answer ≡ Some e)
  pub link_is : link ≡ value_of answer

-- one `start`
pub record StreamAsked {I L E : Type 0} (start : Start) (link : links.Ghosts L) (old : L)
    (result : Result (SessionEvent I) E) (new : L) : Type 0 where
  pub answer : Result (Unit {0}) LinkFault
  pub called : Starts link old start answer new
  pub yielded : IfOk result (λ e. yielded_by_start answer ≡ Some e)

-- one `next`
pub record ItemAsked {I L E : Type 0} (item : Response → Option I) (link : links.Ghosts L) (old : L)
    (result : Result (SessionEvent I) E) (new : L) : Type 0 where
  pub answer : Result (Option Response) LinkFault
  pub called : Nexts link old answer new
  pub yielded : IfOk result (λ e. yielded_by_next item answer ≡ Some e)

-- a connector and its link, before or after an ask
pub record Asked (S L : Type 0) : Type 0 where
  pub connector : S
  pub link : Option L

-- the link was asked, and the connector was not
pub record LinkAsked {S L : Type 0} (By : L → L → Type 0) (old new : Asked S L) : Type 0 where
  pub before : L
  pub after : L
  pub was : old.link ≡ Some before
  pub is : new.link ≡ Some after
  pub asked : By before after
  pub same : new.connector ≡ old.connector

-- exactly one call, the one that the ask says
abbrev pub AsksOnceFor : {I S L E : Type 0} → Wanted I → connectors.Ghosts S L → links.Ghosts L
    → Phase → Asked S L → Result (SessionEvent I) E → Asked S L → Type 0
AsksOnceFor wanted connector link phases.Client old result new =
    ClientAsked connector link.answers old.connector result new.connector new.link
AsksOnceFor wanted connector link phases.Connect old result new =
    LinkAsked (λ l l'. StreamAsked wanted.start link l result l') old new
AsksOnceFor wanted connector link phases.Next old result new =
    LinkAsked (λ l l'. ItemAsked wanted.item link l result l') old new

-- that call; or none, where memory ran out before it
abbrev pub AsksFor : {I S L E : Type 0} → Wanted I → connectors.Ghosts S L → links.Ghosts L → Phase
    → Asked S L → Result (SessionEvent I) E → Asked S L → Type 0
AsksFor wanted connector link ask old result new =
    AsksOnceFor wanted connector link ask old result new ⊎ (IsErr result × (new ≡ old))

-- ---- of an X.509 session

abbrev pub context_of : Response → Option ContextResponse
context_of (response.Context r) = Some r
context_of _ = None

-- X.509 contexts, with the header of the Workload API alone
abbrev pub contexts : Wanted ContextResponse
contexts = record {
  start = record { headers = with_metadata []; request = request.X509Svid };
  item = context_of;
}
