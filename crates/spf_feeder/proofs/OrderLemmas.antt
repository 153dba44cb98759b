-- What an ask yields answers it, and a run that goes on.
use Rattle.std.proofs.Common.{◌≡◌, Bool, true, false, List, [], ◌∷◌, ◌++◌, reverse, Option, None}
use Rattle.std.proofs.Common.{Some, Result, Ok, Err, refl, sym, ap, ◌∙◌, subst}
use Rattle.std.specs.Prelude.{not, ◌||◌, ℤ, is_some, IsTrue}
use Rattle.std.specs.Option.{option_map, option_map_or, option_to_list}
use Rattle.std.proofs.lemmas.List.{append-nil, append_assoc}
use Rattle.spf_api.specs.declared.link.ClientFault.{ClientFault}
use Rattle.spf_api.specs.declared.link.ClientFault.TheVariants as client
use Rattle.spf_api.specs.declared.link.LinkFault.{LinkFault}
use Rattle.spf_api.specs.declared.response.Response.{Response}
use Rattle.spf_link.specs.declared.connector.Connector as connectors
use Rattle.spf_link.specs.declared.link.Link as links
use Rattle.spf_view.specs.Views.{Accepted, Outcome, Passed, Subject, brings, denied_or_passed}
use Rattle.spf_view.specs.Views.{has_synced, keep_if, last_moment, outcome, outcomes}
use Rattle.spf_view.specs.Steps.{Accept, IsLegal, steps_back, steps_of, step_in}
use Rattle.spf_view.proofs.EventLemmas.{steps_legal}
use Rattle.spf_view.proofs.ViewLemmas.{last_first, steps_more}
use Rattle.spf_feed.specs.declared.event.SessionEvent.{SessionEvent}
use Rattle.spf_feed.specs.declared.event.SessionEvent.TheVariants as events
use Rattle.spf_feed.specs.declared.phase.Phase.{Phase}
use Rattle.spf_feed.specs.declared.phase.Phase.TheVariants as phases
use Rattle.spf_feeder.specs.Asking.{Asked, AsksOnceFor, Wanted, is_client, refused_as}
use Rattle.spf_feeder.specs.Asking.{yielded_by_connect, yielded_by_next, yielded_by_start}
use Rattle.spf_feeder.specs.Orderly.{AddsAnswerTo, AreOrderly, AreTimed, GoesOn, does_answer}
use Rattle.spf_feeder.specs.Orderly.{ends_with_moment, has_moment, is_moment, is_timed}

-- ---- what is yielded answers the ask

all_answer : {I : Type 0} → Phase → Option (SessionEvent I) → Bool
all_answer ask None = true
all_answer ask (Some e) = does_answer ask e

mapped_answers : {I X : Type 0} (ask : Phase) (make : X → SessionEvent I) (o : Option X)
    → ((x : X) → does_answer ask (make x) ≡ true) → all_answer ask (option_map make o) ≡ true
unfolding all_answer
mapped_answers ask make None h = refl
mapped_answers ask make (Some x) h = h x

connect_answers : {L : Type 0} (I : Type 0) (r : Result L ClientFault)
    → all_answer {I = I} phases.Client (yielded_by_connect r) ≡ true
unfolding all_answer
connect_answers I (Ok link) = refl
connect_answers I (Err client.OutOfMemory) = refl
connect_answers I (Err (client.Status s)) = refl
connect_answers I (Err (client.Unreachable t)) = refl

start_answers : (I : Type 0) (r : Result (Unit {0}) LinkFault)
    → all_answer {I = I} phases.Connect (yielded_by_start r) ≡ true
unfolding all_answer
start_answers I (Ok done) = refl
start_answers I (Err f) =
    mapped_answers phases.Connect events.ConnectStatus (refused_as f) (λ x. refl)

next_answers : {I : Type 0} (item : Response → Option I) (r : Result (Option Response) LinkFault)
    → all_answer phases.Next (yielded_by_next item r) ≡ true
unfolding all_answer
next_answers item (Ok None) = refl
next_answers item (Ok (Some r)) = mapped_answers phases.Next events.Item (item r) (λ x. refl)
next_answers item (Err f) =
    mapped_answers phases.Next events.ItemStatus (refused_as f) (λ x. refl)

pub once_answers : {I S L : Type 0} (E : Type 0) (wanted : Wanted I)
    (connector : connectors.Ghosts S L) (link : links.Ghosts L) (ask : Phase) (old new : Asked S L)
    (e : SessionEvent I) → AsksOnceFor {E = E} wanted connector link ask old (Ok e) new
    → does_answer ask e ≡ true
unfolding all_answer
once_answers {I} E wanted connector link phases.Client old new e h =
    sym (ap (all_answer phases.Client) h.yielded) ∙ connect_answers I h.answer
once_answers {I} E wanted connector link phases.Connect old new e h =
    sym (ap (all_answer phases.Connect) h.asked.yielded) ∙ start_answers I h.asked.answer
once_answers E wanted connector link phases.Next old new e h =
    sym (ap (all_answer phases.Next) h.asked.yielded) ∙ next_answers wanted.item h.asked.answer

pub no_moment : {I : Type 0} (ask : Phase) (e : SessionEvent I) → does_answer ask e ≡ true →
    is_moment e ≡ false
no_moment ask events.ClientMade h = refl
no_moment ask (events.ClientFailed x) h = refl
no_moment ask events.Connected h = refl
no_moment ask (events.ConnectStatus x) h = refl
no_moment ask (events.Item x) h = refl
no_moment ask (events.ItemStatus x) h = refl
no_moment ask events.StreamEnd h = refl
no_moment phases.Client (events.Moment x) h = absurd cc
no_moment phases.Connect (events.Moment x) h = absurd cc
no_moment phases.Next (events.Moment x) h = absurd cc
no_moment ask events.Close h = refl

-- ---- one more event

pub orderly_more : {I A : Type 0} (ask : List (SessionEvent I) → Phase)
    (refusal : List (SessionEvent I) → SessionEvent I → Option A) (run : List (SessionEvent I))
    (e : SessionEvent I) → (is_moment e || does_answer (ask (reverse run)) e) ≡ true
    → refusal (reverse run) e ≡ None → AreOrderly ask refusal (reverse run)
    → AreOrderly ask refusal (reverse (run ++ e ∷ []))
orderly_more ask refusal run e fits none orderly =
    subst (AreOrderly ask refusal) (sym (last_first run e))
    (record { fits = fits; unrefused = none }, orderly)

pub goes_nowhere : {I : Type 0} (old new : List (SessionEvent I)) → new ≡ old → GoesOn old new
goes_nowhere old new same =
    record { later = []; run_is = same ∙ sym (append-nil old); timeless = refl }

pub goes_once : {I : Type 0} (old new : List (SessionEvent I)) (e : SessionEvent I)
    → is_moment e ≡ false → new ≡ old ++ e ∷ [] → GoesOn old new
goes_once old new e h is =
    record { later = e ∷ []; run_is = is; timeless = ap (λ b. b || false) h }

first_none : {I : Type 0} (e : SessionEvent I) (run : List (SessionEvent I))
    → (is_moment e || has_moment run) ≡ false → is_moment e ≡ false
first_none e run h = by_first (is_moment e) h
  where
    by_first : (b : Bool) → (b || has_moment run) ≡ false → b ≡ false
    by_first true h = absurd cc
    by_first false h = refl

rest_none : {I : Type 0} (e : SessionEvent I) (run : List (SessionEvent I))
    → (is_moment e || has_moment run) ≡ false → has_moment run ≡ false
rest_none e run h = by_first (is_moment e) h
  where
    by_first : (b : Bool) → (b || has_moment run) ≡ false → has_moment run ≡ false
    by_first true h = absurd cc
    by_first false h = h

none_of : {I : Type 0} (xs ys : List (SessionEvent I)) → has_moment xs ≡ false
    → has_moment ys ≡ false → has_moment (xs ++ ys) ≡ false
none_of [] ys h k = k
none_of (x ∷ xs) ys h k =
    ap (λ b. b || has_moment (xs ++ ys)) (first_none x xs h)
    ∙ none_of xs ys (rest_none x xs h) k

pub goes_further : {I : Type 0} (a b c : List (SessionEvent I)) → GoesOn a b → GoesOn b c → GoesOn a
    c
goes_further a b c h k = record {
  later = h.later ++ k.later;
  run_is = k.run_is ∙ ap (λ l. l ++ k.later) h.run_is ∙ append_assoc a h.later k.later;
  timeless = none_of h.later k.later h.timeless k.timeless;
}

-- ---- the moments

timed_answer : {I : Type 0} (ask : Phase) (e : SessionEvent I) (ends synced : Bool)
    → synced ≡ false
    → ends ≡ is_client ask → does_answer ask e ≡ true → is_timed ends synced e ≡ true
timed_answer {I} phases.Client events.ClientMade ends synced none is h =
    (λ i. is_timed {I = I} (is i) (none i) events.ClientMade)
timed_answer {I} phases.Client (events.ClientFailed f) ends synced none is h =
    (λ i. is_timed {I = I} (is i) (none i) (events.ClientFailed f))
timed_answer {I} phases.Connect events.Connected ends synced none is h =
    (λ i. is_timed {I = I} (is i) (none i) events.Connected)
timed_answer {I} phases.Connect (events.ConnectStatus x) ends synced none is h =
    (λ i. is_timed {I = I} (is i) (none i) (events.ConnectStatus x))
timed_answer {I} phases.Next (events.Item x) ends synced none is h =
    (λ i. is_timed {I = I} (is i) (none i) (events.Item x))
timed_answer {I} phases.Next (events.ItemStatus x) ends synced none is h =
    (λ i. is_timed {I = I} (is i) (none i) (events.ItemStatus x))
timed_answer {I} phases.Next events.StreamEnd ends synced none is h =
    (λ i. is_timed {I = I} (is i) (none i) events.StreamEnd)
timed_answer phases.Client events.Connected ends synced none is h = absurd cc
timed_answer phases.Client (events.ConnectStatus x) ends synced none is h = absurd cc
timed_answer phases.Client (events.Item x) ends synced none is h = absurd cc
timed_answer phases.Client (events.ItemStatus x) ends synced none is h = absurd cc
timed_answer phases.Client events.StreamEnd ends synced none is h = absurd cc
timed_answer phases.Client (events.Moment x) ends synced none is h = absurd cc
timed_answer phases.Client events.Close ends synced none is h = absurd cc
timed_answer phases.Connect events.ClientMade ends synced none is h = absurd cc
timed_answer phases.Connect (events.ClientFailed x) ends synced none is h = absurd cc
timed_answer phases.Connect (events.Item x) ends synced none is h = absurd cc
timed_answer phases.Connect (events.ItemStatus x) ends synced none is h = absurd cc
timed_answer phases.Connect events.StreamEnd ends synced none is h = absurd cc
timed_answer phases.Connect (events.Moment x) ends synced none is h = absurd cc
timed_answer phases.Connect events.Close ends synced none is h = absurd cc
timed_answer phases.Next events.ClientMade ends synced none is h = absurd cc
timed_answer phases.Next (events.ClientFailed x) ends synced none is h = absurd cc
timed_answer phases.Next events.Connected ends synced none is h = absurd cc
timed_answer phases.Next (events.ConnectStatus x) ends synced none is h = absurd cc
timed_answer phases.Next (events.Moment x) ends synced none is h = absurd cc
timed_answer phases.Next events.Close ends synced none is h = absurd cc

pub about_timed : {I M L D : Type 0} (s : Subject (SessionEvent I) M L D)
    (ask : List (SessionEvent I) → Phase) (run run' : List (SessionEvent I))
    → AreTimed s (reverse run) → has_synced s (reverse run) ≡ false
    → ends_with_moment (reverse run) ≡ is_client (ask (reverse run)) → AddsAnswerTo ask run run'
    → AreTimed s (reverse run')
about_timed s ask run run' timed unsynced ends k =
    let past = reverse run in
    subst (λ l. AreTimed s (reverse l)) (sym k.run_is)
    (subst (AreTimed s) (sym (last_first run k.event)) (
      timed_answer (ask past) k.event (ends_with_moment past) (has_synced s past) unsynced ends
          k.answers,
      timed,
    ))

no_longer : {X : Type 0} (b : Bool) → b ≡ false → b ≡ true → X
no_longer true f t = absurd cc
no_longer false f t = absurd cc

-- an answer is not a moment
pub ends_unmoved : {I : Type 0} (ask : List (SessionEvent I) → Phase)
    (run run' : List (SessionEvent I)) → AddsAnswerTo ask run run'
    → ends_with_moment (reverse run') ≡ true → is_client (ask (reverse run')) ≡ true
ends_unmoved ask run run' k t =
    no_longer (ends_with_moment (reverse run'))
    (ap (λ l. ends_with_moment (reverse l)) k.run_is ∙ ap ends_with_moment (last_first run k.event)
    ∙ no_moment (ask (reverse run)) k.event k.answers) t

-- ---- a run that is synchronised goes on

timed_later : {I : Type 0} (e : SessionEvent I) (ends synced : Bool) → ends ≡ false → synced ≡ true
    → is_moment e ≡ false → is_timed ends synced e ≡ true
timed_later {I} events.ClientMade ends synced none is h =
    (λ i. is_timed {I = I} (none i) (is i) events.ClientMade)
timed_later {I} (events.ClientFailed x) ends synced none is h =
    (λ i. is_timed {I = I} (none i) (is i) (events.ClientFailed x))
timed_later {I} events.Connected ends synced none is h =
    (λ i. is_timed {I = I} (none i) (is i) events.Connected)
timed_later {I} (events.ConnectStatus x) ends synced none is h =
    (λ i. is_timed {I = I} (none i) (is i) (events.ConnectStatus x))
timed_later {I} (events.Item x) ends synced none is h = (λ i. is_timed {I = I} (none i) (is i)
    (events.Item x))
timed_later {I} (events.ItemStatus x) ends synced none is h =
    (λ i. is_timed {I = I} (none i) (is i) (events.ItemStatus x))
timed_later {I} events.StreamEnd ends synced none is h =
    (λ i. is_timed {I = I} (none i) (is i) events.StreamEnd)
timed_later (events.Moment x) ends synced none is h = absurd cc
timed_later {I} events.Close ends synced none is h = (λ i. is_timed {I = I} (none i) (is i)
    events.Close)

or_right : (a b : Bool) → b ≡ true → (a || b) ≡ true
or_right true b h = refl
or_right false b h = h

-- a moment is not an item
abbrev pub NoMomentIsRead : {I M L D : Type 0} → Subject (SessionEvent I) M L D → Type 0
NoMomentIsRead s = (m : ℤ) → s.parsed (events.Moment m) ≡ None

pub unread_moment : {I M L D : Type 0} (s : Subject (SessionEvent I) M L D)
    (past : List (SessionEvent I)) (m : ℤ) → NoMomentIsRead s
    → has_synced s (events.Moment m ∷ past) ≡ has_synced s past
unread_moment s past m unread =
    ap (λ o. is_some (keep_if (λ x. has_synced s past || s.may_sync x (last_moment s past))
    (keep_if (s.is_within s.limits) o)) || has_synced s past) (unread m)

-- after something is accepted no moment is last
ends_not : {I M L D : Type 0} (s : Subject (SessionEvent I) M L D) (past : List (SessionEvent I))
    → NoMomentIsRead s → AreTimed s past → has_synced s past ≡ true
    → ends_with_moment past ≡ false
ends_not s [] unread timed synced = refl
ends_not s (events.ClientMade ∷ past) unread timed synced = refl
ends_not s (events.ClientFailed x ∷ past) unread timed synced = refl
ends_not s (events.Connected ∷ past) unread timed synced = refl
ends_not s (events.ConnectStatus x ∷ past) unread timed synced = refl
ends_not s (events.Item x ∷ past) unread timed synced = refl
ends_not s (events.ItemStatus x ∷ past) unread timed synced = refl
ends_not s (events.StreamEnd ∷ past) unread timed synced = refl
ends_not s (events.Close ∷ past) unread timed synced = refl
ends_not s (events.Moment m ∷ past) unread timed synced =
    let before : has_synced s past ≡ true = sym (unread_moment s past m unread) ∙ synced in
    absurd (not_both (ends_with_moment past) (has_synced s past) before timed.0)
  where
    not_both : (a b : Bool) → b ≡ true → not (a || b) ≡ true → ⊥
    not_both true b h k = cc
    not_both false true h k = cc
    not_both false false h k = cc

-- something is accepted, and the moments stand where they should; the newest first
abbrev pub SyncedTimed : {I M L D : Type 0} → Subject (SessionEvent I) M L D
    → List (SessionEvent I) → Type 0
SyncedTimed s past = AreTimed s past × (has_synced s past ≡ true)

synced_more : {I M L D : Type 0} (s : Subject (SessionEvent I) M L D)
    (past : List (SessionEvent I)) (e : SessionEvent I) → NoMomentIsRead s → is_moment e ≡ false
    → SyncedTimed s past → SyncedTimed s (e ∷ past)
synced_more s past e unread h (timed, synced) = (
  (
    timed_later e (ends_with_moment past) (has_synced s past) (ends_not s past unread timed synced)
        synced h,
    timed,
  ),
  or_right _ (has_synced s past) synced,
)

synced_later : {I M L D : Type 0} (s : Subject (SessionEvent I) M L D)
    (run later : List (SessionEvent I)) → NoMomentIsRead s → has_moment later ≡ false
    → SyncedTimed s (reverse run) → SyncedTimed s (reverse (run ++ later))
synced_later s run [] unread h at =
    subst (λ l. SyncedTimed s (reverse l)) (sym (append-nil run)) at
synced_later s run (e ∷ later) unread h at =
    let once : SyncedTimed s (reverse (run ++ e ∷ [])) =
    subst (SyncedTimed s) (sym (last_first run e))
    (synced_more s (reverse run) e unread (first_none e later h) at) in
    subst (λ l. SyncedTimed s (reverse l)) (append_assoc run (e ∷ []) later)
    (synced_later s (run ++ e ∷ []) later unread (rest_none e later h) once)

pub synced_on : {I M L D : Type 0} (s : Subject (SessionEvent I) M L D)
    (old new : List (SessionEvent I)) → NoMomentIsRead s → GoesOn old new
    → SyncedTimed s (reverse old) → SyncedTimed s (reverse new)
synced_on s old new unread h at =
    subst (λ l. SyncedTimed s (reverse l)) (sym h.run_is)
    (synced_later s old h.later unread h.timeless at)

-- ---- the first step

no_step : {M D L : Type 0} (l : L) (o : Outcome M D) (os : List (Outcome M D)) → o ≡ Passed
    → steps_back l os ≡ [] → steps_back l (o ∷ os) ≡ []
no_step l o os is h = ap (λ o. steps_back l (o ∷ os)) is ∙ h

unsynced_passes : {M D : Type 0} (b : Option M) (synced : Bool) (d : Option D)
    → (is_some b || synced) ≡ false
    → (option_map_or Accepted b (denied_or_passed synced d) ≡ Passed) × (synced ≡ false)
unsynced_passes (Some m) synced d h = absurd cc
unsynced_passes None true d h = absurd cc
unsynced_passes None false None h = (refl, refl)
unsynced_passes None false (Some x) h = (refl, refl)

no_steps : {E M L D : Type 0} (s : Subject E M L D) (past : List E) → has_synced s past ≡ false
    → steps_back s.limits (outcomes s past) ≡ []
no_steps s [] h = refl
no_steps s (e ∷ past) h =
    let p = unsynced_passes (brings s (has_synced s past) (last_moment s past) e)
    (has_synced s past)
    (s.denial e) h in
    no_step s.limits (outcome s e past) (outcomes s past) p.0 (no_steps s past p.1)

one_step : {M D : Type 0} (d : Option D) (b : Option M) (synced : Bool) → synced ≡ false
    → (is_some b || synced) ≡ true
    → (m : M) × (option_map_or Accepted b (denied_or_passed synced d) ≡ Accepted m)
one_step d (Some m) synced none h = (m, refl)
one_step d None true none h = absurd cc
one_step d None false none h = absurd cc

-- the step of the first accepted item, which is within the limits
pub first_step : {E M L D : Type 0} (s : Subject E M L D) (run run' : List E) (e : E)
    → run' ≡ run ++ e ∷ [] → has_synced s (reverse run) ≡ false
    → has_synced s (reverse run') ≡ true
    → (m : M) × (steps_of s run' ≡ Accept m s.limits ∷ []) × IsTrue (s.is_within s.limits m)
first_step s run run' e is none synced =
    let past = reverse run in
    let more : has_synced s (e ∷ past) ≡ true =
    ap (has_synced s) (sym (last_first run e)) ∙ ap (λ l. has_synced s (reverse l)) (sym is)
    ∙ synced in
    let step = one_step (s.denial e) (brings s (has_synced s past) (last_moment s past) e)
    (has_synced s past) none more in
    let empty : steps_of s run ≡ [] = ap reverse (no_steps s past none) in
    let is_one : steps_of s run' ≡ Accept step.0 s.limits ∷ [] =
    ap (steps_of s) is ∙ steps_more s run e
    ∙ (λ i. empty i ++ option_to_list (step_in s.limits (step.1 i))) in
    let legal = subst (IsLegal s.is_within) is_one
    (steps_legal s run' (λ none. let bad : Accept step.0 s.limits ∷ [] ≡ [] = sym is_one
    ∙ none in cc)) in
    (step.0, is_one, legal.each.0)
