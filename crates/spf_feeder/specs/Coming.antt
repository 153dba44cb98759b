-- What is still to come from a connector, where that is known, and from its link, and what the asks
-- take of it.
use Rattle.std.specs.Prelude.{◌≡◌, List, [], ◌∷◌, Option, None, Some, Ok, Err}
use Rattle.spf_link.specs.Connecting.{Member, connected_by}
use Rattle.spf_link.specs.Links.{rest_of, started_by, next_by}
use Rattle.spf_link.specs.declared.answer.Answer.{Answer}
use Rattle.spf_feed.specs.declared.event.SessionEvent.{SessionEvent}
use Rattle.spf_feed.specs.declared.event.SessionEvent.TheVariants as events
use Rattle.spf_feed.specs.declared.phase.Phase.{Phase}
use Rattle.spf_feed.specs.declared.phase.Phase.TheVariants as phases
use Rattle.spf_feed.specs.Items.{Event, Rules}
use Rattle.spf_feeder.specs.Asking.{Wanted, kind_wanted}
use Rattle.spf_feeder.specs.Asking.{yielded_by_connect, yielded_by_next, yielded_by_start}
use Rattle.spf_feeder.specs.Kinds.{Kind, x509}

-- what each `connect` to come gives, and the answers to come of the link in use
pub record Coming : Type 0 where
  pub members : List Member
  pub answers : List Answer

-- the event that an ask yields
abbrev pub yielded_at : {I : Type 0} → Wanted I → Phase → Coming → Option (SessionEvent I)
yielded_at wanted phases.Client coming = yielded_by_connect (connected_by coming.members)
yielded_at wanted phases.Connect coming = yielded_by_start (started_by coming.answers)
yielded_at wanted phases.Next coming =
    yielded_by_next wanted.item (next_by (Some (kind_wanted wanted)) coming.answers)

-- the answers of a link that was made; a connection that failed leaves none
abbrev pub answers_in : Member → List Answer
answers_in (Ok answers) = answers
answers_in (Err f) = []

-- what an ask leaves: a link that is dropped takes its answers with it
abbrev pub left_at : Phase → Coming → Coming
left_at phases.Client coming = record {
  members = rest_of coming.members;
  answers = answers_in (connected_by coming.members);
}
left_at phases.Connect coming = record coming { answers = rest_of coming.answers }
left_at phases.Next coming = record coming { answers = rest_of coming.answers }

-- no link yet
abbrev pub at_first : List Member → Coming
at_first members = record { members = members; answers = [] }

-- what is left after a history; a moment and a close ask nothing
abbrev pub left_after_by : {I : Type 0} → (List (SessionEvent I) → Phase) → List Member
    → List (SessionEvent I) → Coming
left_after_by ask members [] = at_first members
left_after_by ask members (events.Moment m ∷ past) = left_after_by ask members past
left_after_by ask members (events.Close ∷ past) = left_after_by ask members past
left_after_by ask members (e ∷ past) = left_at (ask past) (left_after_by ask members past)

-- an event is what the ask before it takes, where it is neither a moment nor a close
abbrev pub IsYielded : {I : Type 0} → Wanted I → (List (SessionEvent I) → Phase) → List Member
    → List (SessionEvent I) → SessionEvent I → Type 0
IsYielded wanted ask members past (events.Moment m) = Unit {0}
IsYielded wanted ask members past events.Close = Unit {0}
IsYielded wanted ask members past e =
    yielded_at wanted (ask past) (left_after_by ask members past) ≡ Some e

-- the events other than moments are what the asks, in order, take of the members
abbrev pub AllYieldedBy : {I : Type 0} → Wanted I → (List (SessionEvent I) → Phase) → List Member
    → List (SessionEvent I) → Type 0
AllYieldedBy wanted ask members [] = Unit {0}
AllYieldedBy wanted ask members (e ∷ past) =
    IsYielded wanted ask members past e × AllYieldedBy wanted ask members past

-- a connector and its link have this still to yield
abbrev pub LinkHolds : {L : Type 0} → (L → Option (List Answer)) → List Answer → Option L → Type 0
LinkHolds answers coming None = coming ≡ []
LinkHolds answers coming (Some link) = answers link ≡ Some coming

pub record Holds {S L : Type 0} (members : S → Option (List Member))
    (answers : L → Option (List Answer)) (coming : Coming) (connector : S)
    (link : Option L) : Type 0 where
  pub members_are : members connector ≡ Some coming.members
  pub answers_are : LinkHolds answers coming.answers link

-- ---- of a session of some kind

unfoldable pub left_of : {I M B R : Type 0} → Kind I M B R → List Member
    → List (SessionEvent I) → Coming
left_of k members past = left_after_by k.ask members past

unfoldable pub AllYieldedOf : {I M B R : Type 0} → Kind I M B R → List Member
    → List (SessionEvent I) → Type 0
AllYieldedOf k members past = AllYieldedBy k.wanted k.ask members past

-- ---- of an X.509 session

abbrev pub AllYielded : Rules → List Member → List Event → Type 0
AllYielded rules members past = AllYieldedOf (x509 rules) members past
