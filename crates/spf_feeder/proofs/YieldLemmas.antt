-- What asks take of what a connector has to yield.
use Rattle.std.proofs.Common.{◌≡◌, Bool, true, false, List, [], ◌∷◌, ◌++◌, reverse, Option, None}
use Rattle.std.proofs.Common.{Some, Result, Ok, Err, cond, refl, sym, ap, ◌∙◌, subst}
use Rattle.std.specs.Prelude.{IfOk}
use Rattle.std.specs.Option.{option_map}
use Rattle.spf_view.proofs.ViewLemmas.{last_first}
use Rattle.spf_api.specs.Refused.{Refused}
use Rattle.spf_api.specs.declared.response.Response.{Response}
use Rattle.spf_api.specs.declared.response.ResponseKind.{ResponseKind}
use Rattle.spf_api.specs.declared.link.ClientFault.{ClientFault}
use Rattle.spf_api.specs.declared.link.ClientFault.TheVariants as client
use Rattle.spf_api.specs.declared.link.LinkFault.{LinkFault}
use Rattle.spf_api.specs.declared.link.LinkFault.TheVariants as fault
use Rattle.spf_link.specs.Connecting.{Connects, Member, connected_by}
use Rattle.spf_link.specs.Links.{Takes, rest_of, started_by, next_by}
use Rattle.spf_link.specs.declared.answer.Answer.{Answer}
use Rattle.spf_link.specs.declared.connector.Connector as connectors
use Rattle.spf_link.specs.declared.link.Link as links
use Rattle.spf_feed.specs.Items.{value_of}
use Rattle.spf_feed.specs.declared.event.SessionEvent.{SessionEvent}
use Rattle.spf_feed.specs.declared.event.SessionEvent.TheVariants as events
use Rattle.spf_feed.specs.declared.phase.Phase.{Phase}
use Rattle.spf_feed.specs.declared.phase.Phase.TheVariants as phases
use Rattle.spf_feeder.specs.Asking.{Asked, AsksOnceFor, Wanted, refused_as, yielded_by_connect}
use Rattle.spf_feeder.specs.Asking.{kind_wanted, yielded_by_next, yielded_by_start}
use Rattle.spf_feeder.specs.Coming.{AllYieldedBy, Coming, Holds, IsYielded, LinkHolds, answers_in}
use Rattle.spf_feeder.specs.Coming.{left_after_by, left_at, yielded_at}
use Rattle.spf_feeder.specs.Fed.{IsReadyFor}
use Rattle.spf_feeder.specs.Kinds.{FollowsEvents}

-- a fact of what a call that went through gave
pub if_ok : {T E : Type 0} (q : Result T E) (P : T → Type 0) → ((x : T) → q ≡ Ok x → P x) → IfOk q P
if_ok (Ok x) P f = f x refl
if_ok (Err e) P f = tt

-- what a `connect` yields, and what it leaves
connect_yielded : {I L : Type 0} (answers : L → Option (List Answer)) (members : List Member)
    (new : Option (List Member)) (answer : Result L ClientFault) (e : SessionEvent I)
    → Connects answers (Some members) new answer → yielded_by_connect answer ≡ Some e
    → (new ≡ Some (rest_of members))
    × (yielded_by_connect (connected_by members) ≡ Some e)
    × LinkHolds answers (answers_in (connected_by members)) (value_of answer)
connect_yielded answers members new (Ok link) e c yielded = (
  c.0,
  ap yielded_by_connect c.1.2 ∙ yielded,
  c.1.1 ∙ ap (λ m. Some (answers_in m)) (sym c.1.2),
)
connect_yielded answers members new (Err client.OutOfMemory) e c yielded = absurd cc
connect_yielded answers members new (Err (client.Status s)) e c yielded =
    (c.0, ap yielded_by_connect c.1 ∙ yielded, ap answers_in c.1)
connect_yielded answers members new (Err (client.Unreachable t)) e c yielded =
    (c.0, ap yielded_by_connect c.1 ∙ yielded, ap answers_in c.1)

-- what a call of the link yields, and what it leaves
link_yielded : {I T : Type 0} (coming : List Answer) (new : Option (List Answer))
    (by : List Answer → Result T LinkFault) (event_of : Result T LinkFault → Option (SessionEvent
    I))
    (answer : Result T LinkFault) (e : SessionEvent I) → Takes (Some coming) new by answer
    → (event_of (Err fault.OutOfMemory) ≡ None) → event_of answer ≡ Some e
    → (new ≡ Some (rest_of coming)) × (event_of (by coming) ≡ Some e)
link_yielded coming new by event_of (Ok x) e t none yielded = (t.0, ap event_of (sym t.1) ∙ yielded)
link_yielded coming new by event_of (Err fault.OutOfMemory) e t none yielded =
    absurd (let bad : None ≡ Some e = sym none ∙ yielded in cc)
link_yielded coming new by event_of (Err (fault.Status s)) e t none yielded =
    (t.0, ap event_of (sym t.1) ∙ yielded)
link_yielded coming new by event_of (Err (fault.Connect s)) e t none yielded =
    (t.0, ap event_of (sym t.1) ∙ yielded)

-- what one ask yields and leaves, where this was to come
yielded_rest : {I S L : Type 0} (E : Type 0) (wanted : Wanted I) (connector : connectors.Ghosts S L)
    (link : links.Ghosts L) (ask : Phase) (old new : Asked S L) (e : SessionEvent I)
    (coming : Coming) → AsksOnceFor {E = E} wanted connector link ask old (Ok e) new
    → IsReadyFor (kind_wanted wanted) link.kind ask old.link
    → Holds connector.members link.answers coming old.connector old.link
    → (yielded_at wanted ask coming ≡ Some e)
    × Holds connector.members link.answers (left_at ask coming) new.connector new.link
yielded_rest {I} {S} {L} E wanted connector link phases.Client old new e coming h ready holds =
    let yielded = connect_yielded link.answers coming.members (connector.members new.connector)
    h.answer e
    (subst (λ m. Connects link.answers m (connector.members new.connector) h.answer)
    holds.members_are h.called.members) h.yielded in (
      yielded.1,
      record {
        members_are = yielded.0;
        answers_are = subst
            (λ (l : Option L). LinkHolds link.answers (answers_in (connected_by coming.members)) l)
            (sym h.link_is) yielded.2;
      },
    )
yielded_rest {I} {S} {L} E wanted connector link phases.Connect old new e coming h ready holds =
    let had : link.answers h.before ≡ Some coming.answers =
    subst (λ (l : Option L). LinkHolds link.answers coming.answers l) h.was holds.answers_are in
    let yielded = link_yielded coming.answers (link.answers h.after) started_by yielded_by_start
    h.asked.answer e
    (subst (λ a. Takes a (link.answers h.after) started_by h.asked.answer) had
    h.asked.called.answers) refl h.asked.yielded in (
      yielded.1,
      record {
        members_are = ap connector.members h.same ∙ holds.members_are;
        answers_are = subst (λ (l : Option L). LinkHolds link.answers (rest_of coming.answers) l)
            (sym h.is) yielded.0;
      },
    )
yielded_rest {I} {S} {L} E wanted connector link phases.Next old new e coming h ready holds =
    let had : link.answers h.before ≡ Some coming.answers =
    subst (λ (l : Option L). LinkHolds link.answers coming.answers l) h.was holds.answers_are in
    let kind_is : link.kind h.before ≡ Some (kind_wanted wanted) =
    subst (λ (l : Option L). IsReadyFor (kind_wanted wanted) link.kind phases.Next l) h.was ready in
    let yielded = link_yielded coming.answers (link.answers h.after) (next_by (Some (kind_wanted
    wanted)))
    (yielded_by_next wanted.item) h.asked.answer e
    (subst (λ k. Takes (Some coming.answers) (link.answers h.after) (next_by k) h.asked.answer)
    kind_is
    (subst (λ a. Takes a (link.answers h.after) (next_by (link.kind h.before)) h.asked.answer) had
    h.asked.called.answers)) refl h.asked.yielded in (
      yielded.1,
      record {
        members_are = ap connector.members h.same ∙ holds.members_are;
        answers_are = subst (λ (l : Option L). LinkHolds link.answers (rest_of coming.answers) l)
            (sym h.is) yielded.0;
      },
    )

-- ---- what is yielded is neither a moment nor a close

is_asked : {I : Type 0} → SessionEvent I → Bool
is_asked (events.Moment m) = false
is_asked events.Close = false
is_asked _ = true

all_asked : {I : Type 0} → Option (SessionEvent I) → Bool
all_asked None = true
all_asked (Some e) = is_asked e

mapped_asked : {I X : Type 0} (make : X → SessionEvent I) (o : Option X)
    → ((x : X) → is_asked (make x) ≡ true) → all_asked (option_map make o) ≡ true
unfolding all_asked
mapped_asked make None h = refl
mapped_asked make (Some x) h = h x

connect_asked : {L : Type 0} (I : Type 0) (r : Result L ClientFault)
    → all_asked {I = I} (yielded_by_connect r) ≡ true
unfolding is_asked all_asked
connect_asked I (Ok link) = refl
connect_asked I (Err client.OutOfMemory) = refl
connect_asked I (Err (client.Status s)) = refl
connect_asked I (Err (client.Unreachable t)) = refl

start_asked : (I : Type 0) (r : Result (Unit {0}) LinkFault)
    → all_asked {I = I} (yielded_by_start r) ≡ true
unfolding is_asked all_asked
start_asked I (Ok done) = refl
start_asked I (Err f) = mapped_asked events.ConnectStatus (refused_as f) (λ x. refl)

next_asked : {I : Type 0} (item : Response → Option I) (r : Result (Option Response) LinkFault)
    → all_asked (yielded_by_next item r) ≡ true
unfolding is_asked all_asked
next_asked item (Ok None) = refl
next_asked item (Ok (Some r)) = mapped_asked events.Item (item r) (λ x. refl)
next_asked item (Err f) = mapped_asked events.ItemStatus (refused_as f) (λ x. refl)

yielded_asked : {I : Type 0} (wanted : Wanted I) (ask : Phase) (coming : Coming)
    (e : SessionEvent I) → yielded_at wanted ask coming ≡ Some e → is_asked e ≡ true
unfolding all_asked
yielded_asked {I} wanted phases.Client coming e h =
    sym (ap all_asked h) ∙ connect_asked I (connected_by coming.members)
yielded_asked {I} wanted phases.Connect coming e h =
    sym (ap all_asked h) ∙ start_asked I (started_by coming.answers)
yielded_asked wanted phases.Next coming e h =
    sym (ap all_asked h) ∙ next_asked wanted.item (next_by (Some (kind_wanted wanted))
    coming.answers)

left_more : {I : Type 0} (ask : List (SessionEvent I) → Phase) (members : List Member)
    (past : List (SessionEvent I)) (e : SessionEvent I) → is_asked e ≡ true
    → left_after_by ask members (e ∷ past) ≡ left_at (ask past) (left_after_by ask members past)
unfolding is_asked
left_more ask members past events.ClientMade h = refl
left_more ask members past (events.ClientFailed x) h = refl
left_more ask members past events.Connected h = refl
left_more ask members past (events.ConnectStatus x) h = refl
left_more ask members past (events.Item x) h = refl
left_more ask members past (events.ItemStatus x) h = refl
left_more ask members past events.StreamEnd h = refl
left_more ask members past (events.Moment x) h = absurd cc
left_more ask members past events.Close h = absurd cc

yielded_more : {I : Type 0} (wanted : Wanted I) (ask : List (SessionEvent I) → Phase)
    (members : List Member) (past : List (SessionEvent I)) (e : SessionEvent I)
    → yielded_at wanted (ask past) (left_after_by ask members past) ≡ Some e
    → IsYielded wanted ask members past e
yielded_more wanted ask members past events.ClientMade h = h
yielded_more wanted ask members past (events.ClientFailed x) h = h
yielded_more wanted ask members past events.Connected h = h
yielded_more wanted ask members past (events.ConnectStatus x) h = h
yielded_more wanted ask members past (events.Item x) h = h
yielded_more wanted ask members past (events.ItemStatus x) h = h
yielded_more wanted ask members past events.StreamEnd h = h
yielded_more wanted ask members past (events.Moment x) h = tt
yielded_more wanted ask members past events.Close h = tt

-- one more ask
pub yields_more : {I S L : Type 0} (E : Type 0) (wanted : Wanted I)
    (ask : List (SessionEvent I) → Phase) (connector : connectors.Ghosts S L)
    (link : links.Ghosts L) (run : List (SessionEvent I)) (old new : Asked S L)
    (e : SessionEvent I) (first : List Member)
    → AsksOnceFor {E = E} wanted connector link (ask (reverse run)) old (Ok e) new
    → IsReadyFor (kind_wanted wanted) link.kind (ask (reverse run)) old.link
    → AllYieldedBy wanted ask first (reverse run)
    → Holds connector.members link.answers (left_after_by ask first (reverse run)) old.connector
    old.link
    → AllYieldedBy wanted ask first (reverse (run ++ e ∷ []))
    × Holds connector.members link.answers (left_after_by ask first (reverse (run ++ e ∷ [])))
    new.connector new.link
yields_more E wanted ask connector link run old new e first h ready yielded holds =
    let past = reverse run in
    let coming = left_after_by ask first past in
    let rest = yielded_rest E wanted connector link (ask past) old new e coming h ready holds in
    let left = left_more ask first past e (yielded_asked wanted (ask past) coming e rest.0) in
    let more = sym (last_first run e) in (
      subst (AllYieldedBy wanted ask first) more
          (yielded_more wanted ask first past e rest.0, yielded),
      subst (λ l.
          Holds connector.members link.answers (left_after_by ask first l) new.connector new.link)
          more
          (subst (λ c. Holds connector.members link.answers c new.connector new.link) (sym left)
          rest.1),
    )

-- ---- where the link is asked next, it is there

ready_client : {L : Type 0} (kind : ResponseKind) (kind_of : L → Option ResponseKind) (ask : Phase)
    (link : Option L) → ask ≡ phases.Client → IsReadyFor kind kind_of ask link
ready_client kind kind_of ask link is = subst (λ p. IsReadyFor kind kind_of p link) (sym is) tt

ready_item : {L : Type 0} (kind : ResponseKind) (kind_of : L → Option ResponseKind) (link : L)
    (b : Bool) → kind_of link ≡ Some kind
    → IsReadyFor kind kind_of (cond b phases.Next phases.Client) (Some link)
ready_item kind kind_of link true h = h
ready_item kind kind_of link false h = tt

ready_made : {I L : Type 0} (kind : ResponseKind) (ask : List (SessionEvent I) → Phase)
    (link : links.Ghosts L) (past : List (SessionEvent I)) (answer : Result L ClientFault)
    (new : Option L) (e : SessionEvent I) → FollowsEvents ask → yielded_by_connect answer ≡ Some e
    → new ≡ value_of answer → IsReadyFor kind link.kind (ask (e ∷ past)) new
ready_made {I} {L} kind ask link past (Ok made) new e goes yielded is =
    let same : events.ClientMade ≡ e = cc in
    subst (λ x. IsReadyFor kind link.kind (ask (x ∷ past)) new) same
    (subst (λ p. IsReadyFor kind link.kind p new) (sym (goes.made past))
    (subst (λ (l : Option L). IsReadyFor kind link.kind phases.Connect l) (sym is) tt))
ready_made kind ask link past (Err client.OutOfMemory) new e goes yielded is = absurd cc
ready_made kind ask link past (Err (client.Status s)) new e goes yielded is =
    let same : events.ClientFailed (client.Status s) ≡ e = cc in
    ready_client kind link.kind _ new
    (ap (λ x. ask (x ∷ past)) (sym same) ∙ goes.failed past (client.Status s))
ready_made kind ask link past (Err (client.Unreachable t)) new e goes yielded is =
    let same : events.ClientFailed (client.Unreachable t) ≡ e = cc in
    ready_client kind link.kind _ new
    (ap (λ x. ask (x ∷ past)) (sym same) ∙ goes.failed past (client.Unreachable t))

-- a refusal of the link ends the attempt
ready_refused : {I L : Type 0} (kind : ResponseKind) (ask : List (SessionEvent I) → Phase)
    (link : links.Ghosts L) (past : List (SessionEvent I)) (make : Refused → SessionEvent I)
    (o : Option Refused) (new : Option L) (e : SessionEvent I)
    → ((s : Refused) → ask (make s ∷ past) ≡ phases.Client) → option_map make o ≡ Some e
    → IsReadyFor kind link.kind (ask (e ∷ past)) new
ready_refused kind ask link past make None new e goes yielded = absurd cc
ready_refused kind ask link past make (Some s) new e goes yielded =
    let same : make s ≡ e = cc in
    ready_client kind link.kind _ new (ap (λ x. ask (x ∷ past)) (sym same) ∙ goes s)

ready_started : {I L : Type 0} (kind : ResponseKind) (ask : List (SessionEvent I) → Phase)
    (link : links.Ghosts L) (past : List (SessionEvent I)) (answer : Result (Unit {0}) LinkFault)
    (after : L) (e : SessionEvent I) → FollowsEvents ask → yielded_by_start answer ≡ Some e
    → IfOk answer (λ _. link.kind after ≡ Some kind)
    → IsReadyFor kind link.kind (ask (e ∷ past)) (Some after)
ready_started kind ask link past (Ok done) after e goes yielded k =
    let same : events.Connected ≡ e = cc in
    subst (λ x. IsReadyFor kind link.kind (ask (x ∷ past)) (Some after)) same
    (subst (λ p. IsReadyFor kind link.kind p (Some after)) (sym (goes.connected past)) k)
ready_started kind ask link past (Err f) after e goes yielded k =
    ready_refused kind ask link past events.ConnectStatus (refused_as f) (Some after) e
    (goes.refused past) yielded

ready_next : {I L : Type 0} (wanted : Wanted I) (ask : List (SessionEvent I) → Phase)
    (link : links.Ghosts L) (past : List (SessionEvent I))
    (answer : Result (Option Response) LinkFault) (after : L) (e : SessionEvent I)
    → FollowsEvents ask → yielded_by_next wanted.item answer ≡ Some e
    → link.kind after ≡ Some (kind_wanted wanted)
    → IsReadyFor (kind_wanted wanted) link.kind (ask (e ∷ past)) (Some after)
ready_next wanted ask link past (Ok None) after e goes yielded k =
    let same : events.StreamEnd ≡ e = cc in
    ready_client (kind_wanted wanted) link.kind _ (Some after)
    (ap (λ x. ask (x ∷ past)) (sym same) ∙ goes.ended past)
ready_next {I} wanted ask link past (Ok (Some r)) after e goes yielded k =
    by_item (wanted.item r) yielded
  where
    by_item : (o : Option I) → option_map events.Item o ≡ Some e
        → IsReadyFor (kind_wanted wanted) link.kind (ask (e ∷ past)) (Some after)
    by_item None h = absurd cc
    by_item (Some i) h =
        let same : events.Item i ≡ e = cc in
        subst (λ x. IsReadyFor (kind_wanted wanted) link.kind (ask (x ∷ past)) (Some after)) same
        (subst (λ p. IsReadyFor (kind_wanted wanted) link.kind p (Some after)) (sym (goes.item past
        i))
        (ready_item (kind_wanted wanted) link.kind after (goes.keeps past i) k))
ready_next wanted ask link past (Err f) after e goes yielded k =
    ready_refused (kind_wanted wanted) ask link past events.ItemStatus (refused_as f) (Some after) e
    (goes.broken past) yielded

ready_asked : {I S L : Type 0} (E : Type 0) (wanted : Wanted I)
    (ask : List (SessionEvent I) → Phase) (connector : connectors.Ghosts S L)
    (link : links.Ghosts L) (past : List (SessionEvent I)) (phase : Phase) (old new : Asked S L)
    (e : SessionEvent I) → FollowsEvents ask
    → AsksOnceFor {E = E} wanted connector link phase old (Ok e) new
    → IsReadyFor (kind_wanted wanted) link.kind phase old.link
    → IsReadyFor (kind_wanted wanted) link.kind (ask (e ∷ past)) new.link
ready_asked E wanted ask connector link past phases.Client old new e goes h ready =
    ready_made (kind_wanted wanted) ask link past h.answer new.link e goes h.yielded h.link_is
ready_asked {I} {S} {L} E wanted ask connector link past phases.Connect old new e goes h ready =
    subst (λ (l : Option L). IsReadyFor (kind_wanted wanted) link.kind (ask (e ∷ past)) l)
    (sym h.is)
    (ready_started (kind_wanted wanted) ask link past h.asked.answer h.after e goes h.asked.yielded
    h.asked.called.kind)
ready_asked {I} {S} {L} E wanted ask connector link past phases.Next old new e goes h ready =
    let kind_is : link.kind h.before ≡ Some (kind_wanted wanted) =
    subst (λ (l : Option L). IsReadyFor (kind_wanted wanted) link.kind phases.Next l) h.was ready in
    subst (λ (l : Option L). IsReadyFor (kind_wanted wanted) link.kind (ask (e ∷ past)) l)
    (sym h.is)
    (ready_next wanted ask link past h.asked.answer h.after e goes h.asked.yielded
    (h.asked.called.same_kind ∙ kind_is))

pub ready_more : {I S L : Type 0} (E : Type 0) (wanted : Wanted I)
    (ask : List (SessionEvent I) → Phase) (connector : connectors.Ghosts S L)
    (link : links.Ghosts L) (run : List (SessionEvent I)) (old new : Asked S L)
    (e : SessionEvent I) → FollowsEvents ask
    → AsksOnceFor {E = E} wanted connector link (ask (reverse run)) old (Ok e) new
    → IsReadyFor (kind_wanted wanted) link.kind (ask (reverse run)) old.link
    → IsReadyFor (kind_wanted wanted) link.kind (ask (reverse (run ++ e ∷ []))) new.link
ready_more E wanted ask connector link run old new e goes h ready =
    subst (λ l. IsReadyFor (kind_wanted wanted) link.kind (ask l) new.link)
    (sym (last_first run e))
    (ready_asked E wanted ask connector link (reverse run) (ask (reverse run)) old new e goes h
    ready)
