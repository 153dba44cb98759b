-- How a link and a connector in memory answer: what they are made of, and what each call leaves.
use Rattle.std.specs.Prelude.{◌≡◌, ℕ, ◌⊎◌, List, [], ◌∷◌, ◌++◌, map, Option, None, Some, Result, Ok}
use Rattle.std.specs.Prelude.{Err}
use Rattle.spf_io.specs.Memory.{next_number}
use Rattle.spf_api.specs.declared.link.ClientFault.{ClientFault}
use Rattle.spf_api.specs.declared.link.ClientFault.TheVariants as client
use Rattle.spf_api.specs.declared.link.LinkFault.{LinkFault}
use Rattle.spf_api.specs.declared.link.LinkFault.TheVariants as fault
use Rattle.spf_api.specs.declared.response.Response.{Response}
use Rattle.spf_api.specs.declared.response.ResponseKind.{ResponseKind}
use Rattle.spf_link.specs.Connecting.{Member}
use Rattle.spf_link.specs.Links.{next_by, rest_of, started_by, unavailable}
use Rattle.spf_link.specs.Request.{answered_by}
use Rattle.spf_link.specs.declared.answer.Answer.{Answer}
use Rattle.spf_link.specs.declared.request.Request.{Request}
use Rattle.spf_link.specs.declared.request.Start.{Start}

-- a link: the answers to come, what each `start` was given, the kind that was started last, and how
-- often it refused
pub record LinkState : Type 0 where
  pub answers : List Answer
  pub starts : List Start
  pub kind : Option ResponseKind
  pub refusals : ℕ

-- a connector: the links to come, and how often it refused
pub record ConnectorState : Type 0 where
  pub links : List (Result LinkState ClientFault)
  pub refusals : ℕ

-- the count of refusals after a call of a link
abbrev pub refusals_after : {T : Type 0} → Result T LinkFault → ℕ → ℕ
refusals_after (Ok _) refusals = refusals
refusals_after (Err fault.OutOfMemory) refusals = refusals
refusals_after (Err f) refusals = next_number refusals

-- the kind of the responses to come: none after a refusal
abbrev pub kind_after : {T : Type 0} → Result T LinkFault → Request → Option ResponseKind
kind_after (Ok _) request = Some (answered_by request)
kind_after (Err f) request = None

-- a `start` returns what the next answer says, and keeps what it was given; where memory runs out,
-- at most an answer is taken
abbrev pub StartsInMemory : LinkState → Start → Result (Unit {0}) LinkFault → LinkState → Type 0
StartsInMemory old start (Err fault.OutOfMemory) new = (new ≡ old)
    ⊎ ((started_by old.answers ≡ Err fault.OutOfMemory)
    × (new ≡ record old { answers = rest_of old.answers }))
StartsInMemory old start result new =
    (result ≡ started_by old.answers)
    × (new ≡ record {
      answers = rest_of old.answers;
      starts = old.starts ++ start ∷ [];
      kind =
          kind_after result start.request;
      refusals = refusals_after result old.refusals;
    })

-- a `next` returns what the next answer says
abbrev pub NextsInMemory : LinkState → Result (Option Response) LinkFault → LinkState → Type 0
NextsInMemory old result new =
    (result ≡ next_by old.kind old.answers)
    × (new ≡ record old {
      answers = rest_of old.answers;
      refusals =
          refusals_after result old.refusals;
    })

-- the count of refusals after a call of a connector
abbrev pub client_refusals_after : {T : Type 0} → Result T ClientFault → ℕ → ℕ
client_refusals_after (Ok _) refusals = refusals
client_refusals_after (Err client.OutOfMemory) refusals = refusals
client_refusals_after (Err f) refusals = next_number refusals

-- the next link or fault; where there is none, a refusal
abbrev pub next_link : List (Result LinkState ClientFault) → Result LinkState ClientFault
next_link [] = Err (client.Status unavailable)
next_link (link ∷ links) = link

-- a `connect` gives the next link or fault
abbrev pub ConnectsInMemory : ConnectorState → Result LinkState ClientFault → ConnectorState
    → Type 0
ConnectsInMemory old result new =
    (result ≡ next_link old.links) ×
    (new ≡ record {
      links = rest_of old.links;
      refusals =
          client_refusals_after result old.refusals;
    })

-- what a `connect` gives: the answers of its link, or its fault
abbrev pub member_of : Result LinkState ClientFault → Member
member_of (Ok link) = Ok link.answers
member_of (Err f) = Err f

abbrev pub members_of : List (Result LinkState ClientFault) → List Member
members_of links = map member_of links
