-- What one turn of a feeder does.
use Rattle.std.proofs.Common.{◌≡◌, Bool, true, false, List, [], ◌∷◌, ◌++◌, reverse, Option, None}
use Rattle.std.proofs.Common.{Some, Result, Ok, Err, inl, inr, refl, sym, subst}
use Rattle.std.specs.Prelude.{IfErr, IfSome, ℤ, ◌⊎◌}
use Rattle.spf_io.specs.declared.memory.OutOfMemory.{OutOfMemory}
use Rattle.spf_api.specs.declared.response.ResponseKind.{ResponseKind}
use Rattle.spf_link.specs.Connecting.{Member}
use Rattle.spf_link.specs.declared.answer.Answer.{Answer}
use Rattle.spf_link.specs.declared.connector.Connector as connectors
use Rattle.spf_link.specs.declared.link.Link as links
use Rattle.spf_system.specs.declared.pacer.AttemptEnd.{AttemptEnd}
use Rattle.spf_view.specs.Steps.{steps_of}
use Rattle.spf_view.specs.Views.{has_synced}
use Rattle.spf_view.proofs.ViewLemmas.{last_first}
use Rattle.spf_feed.specs.declared.event.SessionEvent.{SessionEvent}
use Rattle.spf_feed.specs.declared.event.SessionEvent.TheVariants as events
use Rattle.spf_feed.specs.declared.phase.Phase.{Phase}
use Rattle.spf_feed.specs.Items.{Event, Rules, subject}
use Rattle.spf_feed.specs.Steps.{Accept}
use Rattle.spf_feeder.specs.declared.session.Stop.{Stop}
use Rattle.spf_feeder.specs.declared.session.Stop.TheVariants as stops
use Rattle.spf_feeder.specs.Asking.{Asked, AsksFor, AsksOnceFor, Wanted, kind_wanted}
use Rattle.spf_feeder.specs.Coming.{AllYieldedBy, AllYieldedOf, Holds, left_after_by, left_of}
use Rattle.spf_feeder.specs.Fed.{EndsFor, FedOf, IsFed, IsReadyFor, StopsFor, TurnedAway, TurnsBy}
use Rattle.spf_feeder.specs.Fed.{YieldsOf}
use Rattle.spf_feeder.specs.Kept.{AdvancesBy, Progress}
use Rattle.spf_feeder.specs.Kinds.{FollowsEvents, IsLawful, Kind, x509}
use Rattle.spf_feeder.specs.Orderly.{AddsAnswerTo, GoesOn, IsAboutToAsk, IsFirstStep, IsOneStep}
use Rattle.spf_feeder.specs.Orderly.{IsOpening, IsOrderlyOf, IsSyncedOf, IsTimedOf, does_answer}
use Rattle.spf_feeder.proofs.OrderLemmas.{about_timed, ends_unmoved, once_answers, synced_on}
use Rattle.spf_feeder.proofs.YieldLemmas.{ready_more, yields_more}

-- an ask that yielded an event was made
asked_once : {I S L : Type 0} (wanted : Wanted I) (connector : connectors.Ghosts S L)
    (link : links.Ghosts L) (ask : Phase) (old new : Asked S L) (e : SessionEvent I)
    → AsksFor {E = OutOfMemory} wanted connector link ask old (Ok e) new
    → AsksOnceFor {E = OutOfMemory} wanted connector link ask old (Ok e) new
asked_once wanted connector link ask old new e (inl once) = once
asked_once wanted connector link ask old new e (inr none) = absurd (let bad = none.0 in cc)

-- the same, where this is what was to be asked
asked_as : {I S L : Type 0} (wanted : Wanted I) (connector : connectors.Ghosts S L)
    (link : links.Ghosts L) (ask ask' : Phase) (old new : Asked S L) (e : SessionEvent I)
    → ask ≡ ask' → AsksFor {E = OutOfMemory} wanted connector link ask old (Ok e) new
    → AsksOnceFor {E = OutOfMemory} wanted connector link ask' old (Ok e) new
asked_as wanted connector link ask ask' old new e next asks =
    asked_once wanted connector link ask' old new e
    (subst (λ p. AsksFor {E = OutOfMemory} wanted connector link p old (Ok e) new) next asks)

no_longer : {X : Type 0} (b : Bool) → b ≡ false → b ≡ true → X
no_longer true f t = absurd cc
no_longer false f t = absurd cc

-- ---- a turn that asks nothing

pub stays_idle : {S L I M B R N : Type 0} (k : Kind I M B R) (connector : connectors.Ghosts S L)
    (link : links.Ghosts L) (old : FedOf S L (Progress N I)) → old.core.stuck ≡ true
    → TurnedAway k connector link old old
stays_idle k connector link old stuck = record {
  how = inl (record { asked = refl; run_is = refl });
  stuck_is = stuck;
  idle = λ t. record { asked = refl; run_is = refl };
}

-- ---- an ask that yielded nothing

unyielded : {S L I M B R N : Type 0} (k : Kind I M B R) (connector : connectors.Ghosts S L)
    (link : links.Ghosts L) (old new : FedOf S L (Progress N I)) (x : OutOfMemory)
    → AsksFor k.wanted connector link (k.ask (reverse old.core.run)) old.asked (Err x) new.asked
    → new.core.run ≡ old.core.run → new.core.stuck ≡ true → old.core.stuck ≡ false
    → TurnedAway k connector link old new
unyielded k connector link old new x (inl once) run stuck going = record {
  how = inr (record { answer = Err x; asked = once; run_is = inl run });
  stuck_is = stuck;
  idle = λ t. no_longer old.core.stuck going t;
}
unyielded k connector link old new x (inr none) run stuck going = record {
  how = inl (record { asked = none.1; run_is = run });
  stuck_is = stuck;
  idle = λ t. no_longer old.core.stuck going t;
}

-- of a feeder F, whose kind and whose course are these
pub unyielded_of : {F S L I M B R N : Type 0} (kind : F → Kind I M B R)
    (seen : F → FedOf S L (Progress N I)) (connector : connectors.Ghosts S L)
    (link : links.Ghosts L) (before old : F) (new : FedOf S L (Progress N I)) (x : OutOfMemory)
    (ask : Phase) → before ≡ old → ask ≡ (kind before).ask (reverse (seen before).core.run)
    → AsksFor (kind before).wanted connector link ask (seen before).asked (Err x) new.asked
    → new.core.run ≡ (seen before).core.run → new.core.stuck ≡ true
    → (seen before).core.stuck ≡ false → TurnedAway (kind old) connector link (seen old) new
unyielded_of kind seen connector link before old new x ask is next asks run stuck going =
    subst (λ o. TurnedAway (kind o) connector link (seen o) new) is
    (unyielded (kind before) connector link (seen before) new x
    (subst (λ p.
    AsksFor {E = OutOfMemory} (kind before).wanted connector link p (seen before).asked (Err x)
    new.asked) next asks) run stuck going)

-- ---- an ask that yielded an event

turned : {S L I M B R N : Type 0} (k : Kind I M B R) (connector : connectors.Ghosts S L)
    (link : links.Ghosts L) (records : N → Option (List R)) (old new : FedOf S L (Progress N I))
    (e : SessionEvent I) (r : Result (Option AttemptEnd) Stop)
    → AsksOnceFor {E = OutOfMemory} k.wanted connector link (k.ask (reverse old.core.run)) old.asked
    (Ok e) new.asked → AdvancesBy k records old.core e r new.core → old.core.stuck ≡ false
    → TurnsBy k connector link records old r new
turned k connector link records old new e (Ok end) once h going =
    record { event = e; asked = once; advanced = h }
turned k connector link records old new e (Err (stops.Terminal end)) once h going = record {
  how = inr (record { answer = Ok e; asked = once; run_is = inl h.run_is });
  stuck_is = h.stuck_is;
  idle = λ t. no_longer old.core.stuck going t;
}
turned {I = I} k connector link records old new e (Err stops.OutOfMemory) once h going = record {
  how = inr (record { answer = Ok e; asked = once; run_is = longer (Ok e) refl h.run_is });
  stuck_is = h.stuck_is;
  idle = λ t. no_longer old.core.stuck going t;
}
  where
    longer : (answer : Result (SessionEvent I) OutOfMemory) → answer ≡ Ok e
        → (new.core.run ≡ old.core.run) ⊎ (new.core.run ≡ old.core.run ++ e ∷ [])
        → (new.core.run ≡ old.core.run)
        ⊎ ((x : SessionEvent I) × (answer ≡ Ok x) × (new.core.run ≡ old.core.run ++ x ∷ []))
    longer answer yielded (inl same) = inl same
    longer answer yielded (inr more) = inr (e, yielded, more)

pub turned_of : {F S L I M B R N : Type 0} (kind : F → Kind I M B R)
    (seen : F → FedOf S L (Progress N I)) (connector : connectors.Ghosts S L)
    (link : links.Ghosts L) (records : N → Option (List R)) (before old : F)
    (new : FedOf S L (Progress N I)) (e : SessionEvent I) (r : Result (Option AttemptEnd) Stop)
    (ask : Phase) → before ≡ old → ask ≡ (kind before).ask (reverse (seen before).core.run)
    → AsksFor {E = OutOfMemory} (kind before).wanted connector link ask (seen before).asked (Ok e)
    new.asked → AdvancesBy (kind before) records (seen before).core e r new.core
    → (seen before).core.stuck ≡ false → TurnsBy (kind old) connector link records (seen old) r new
turned_of kind seen connector link records before old new e r ask is next asks h going =
    subst (λ o. TurnsBy (kind o) connector link records (seen o) r new) is
    (turned (kind before) connector link records (seen before) new e r
    (asked_as (kind before).wanted connector link ask _ (seen before).asked new.asked e next asks)
    h going)

-- ---- what a feeder keeps

-- one more event is in the run where the run goes on
ran : {I M B R N : Type 0} (k : Kind I M B R) (records : N → Option (List R))
    (old new : Progress N I) (e : SessionEvent I) (r : Result (Option AttemptEnd) Stop)
    → AdvancesBy k records old e r new → new.stuck ≡ false → new.run ≡ old.run ++ e ∷ []
ran k records old new e (Ok end) h going = h.run_is
ran k records old new e (Err (stops.Terminal end)) h going = no_longer new.stuck going h.stuck_is
ran k records old new e (Err stops.OutOfMemory) h going = no_longer new.stuck going h.stuck_is

ready_of : {S L I M B R N : Type 0} (connector : connectors.Ghosts S L) (link : links.Ghosts L)
    (records : N → Option (List R)) (k later : Kind I M B R) → FollowsEvents k.ask
    → (before after : Progress N I) (old new : Asked S L) (e : SessionEvent I)
    (r : Result (Option AttemptEnd) Stop) (ask : Phase) → ask ≡ k.ask (reverse before.run)
    → AsksFor {E = OutOfMemory} k.wanted connector link ask old (Ok e) new
    → AdvancesBy k records before e r after → later ≡ k
    → IsReadyFor (kind_wanted k.wanted) link.kind (k.ask (reverse before.run)) old.link
    → after.stuck ≡ false
    → IsReadyFor (kind_wanted later.wanted) link.kind (later.ask (reverse after.run)) new.link
ready_of connector link records k later follows before after old new e r ask next asks h same ready
    going =
    let once = asked_as k.wanted connector link ask _ old new e next asks in
    let run = ran k records before after e r h going in
    subst (λ x.
    IsReadyFor (kind_wanted x.wanted) link.kind (x.ask (reverse after.run)) new.link) (sym same)
    (subst (λ l. IsReadyFor (kind_wanted k.wanted) link.kind (k.ask (reverse l)) new.link) (sym run)
    (ready_more OutOfMemory k.wanted k.ask connector link before.run old new e follows once ready))

if_some : {X : Type 0} (o : Option X) (P Q : X → Type 0) → ((x : X) → P x → Q x) → IfSome o P
    → IfSome o Q
if_some None P Q f h = tt
if_some (Some x) P Q f h = f x h

yields_of : {S L I M B R N : Type 0} (connector : connectors.Ghosts S L) (link : links.Ghosts L)
    (records : N → Option (List R)) (k later : Kind I M B R) (before after : Progress N I)
    (old new : Asked S L) (e : SessionEvent I) (r : Result (Option AttemptEnd) Stop) (ask : Phase)
    (first : Option (List Member)) → ask ≡ k.ask (reverse before.run)
    → AsksFor {E = OutOfMemory} k.wanted connector link ask old (Ok e) new
    → AdvancesBy k records before e r after → later ≡ k
    → IsReadyFor (kind_wanted k.wanted) link.kind (k.ask (reverse before.run)) old.link
    → IfSome first (YieldsOf k connector.members link.answers before.run old)
    → after.stuck ≡ false
    → IfSome first (YieldsOf later connector.members link.answers after.run new)
unfolding AllYieldedOf left_of
yields_of connector link records k later before after old new e r ask first next asks h same ready
    yields going =
    let once = asked_as k.wanted connector link ask _ old new e next asks in
    let run = ran k records before after e r h going in
    if_some first (YieldsOf k connector.members link.answers before.run old)
    (YieldsOf later connector.members link.answers after.run new)
    (λ f t.
    let more = yields_more OutOfMemory k.wanted k.ask connector link before.run old new e f once
    ready t.yielded t.rest in
    subst (λ x. YieldsOf x connector.members link.answers after.run new f) (sym same)
    (subst (λ l. YieldsOf k connector.members link.answers l new f) (sym run)
    (record { yielded = more.0; rest = more.1 }))) yields

-- an event that was refused may stand in the run
run_by : {I M B R N : Type 0} (records : N → Option (List R)) (k : Kind I M B R)
    (before after : Progress N I) (e : SessionEvent I) (r : Result (Option AttemptEnd) Stop)
    → AdvancesBy k records before e r after
    → (after.run ≡ before.run) ⊎ (after.run ≡ before.run ++ e ∷ [])
run_by records k before after e (Ok end) h = inr h.run_is
run_by records k before after e (Err (stops.Terminal end)) h = inl h.run_is
run_by records k before after e (Err stops.OutOfMemory) h = h.run_is

yielded_in : {I M B R : Type 0} (k later : Kind I M B R) (before after : List (SessionEvent I))
    (e : SessionEvent I) (f : List Member) → later ≡ k → AllYieldedOf k f (reverse before)
    → AllYieldedOf k f (reverse (before ++ e ∷ []))
    → (after ≡ before) ⊎ (after ≡ before ++ e ∷ []) → AllYieldedOf later f (reverse after)
yielded_in {I} {M} {B} {R} k later before after e f same was is (inl run) =
    subst (λ (x : Kind I M B R × List (SessionEvent I)). AllYieldedOf x.0 f (reverse x.1))
    (λ i. (sym same i, sym run i)) was
yielded_in {I} {M} {B} {R} k later before after e f same was is (inr run) =
    subst (λ (x : Kind I M B R × List (SessionEvent I)). AllYieldedOf x.0 f (reverse x.1))
    (λ i. (sym same i, sym run i)) is

yielded_of : {S L I M B R N : Type 0} (connector : connectors.Ghosts S L) (link : links.Ghosts L)
    (records : N → Option (List R)) (k later : Kind I M B R) (before after : Progress N I)
    (old new : Asked S L) (e : SessionEvent I) (r : Result (Option AttemptEnd) Stop) (ask : Phase)
    (first : Option (List Member)) → ask ≡ k.ask (reverse before.run)
    → AsksFor {E = OutOfMemory} k.wanted connector link ask old (Ok e) new
    → AdvancesBy k records before e r after → later ≡ k
    → IsReadyFor (kind_wanted k.wanted) link.kind (k.ask (reverse before.run)) old.link
    → IfSome first (YieldsOf k connector.members link.answers before.run old)
    → IfSome first (λ f. AllYieldedOf later f (reverse after.run))
unfolding AllYieldedOf left_of
yielded_of connector link records k later before after old new e r ask first next asks h same ready
    yields =
    let once = asked_as k.wanted connector link ask _ old new e next asks in
    if_some first (YieldsOf k connector.members link.answers before.run old)
    (λ f. AllYieldedOf later f (reverse after.run))
    (λ f t.
    let more = yields_more OutOfMemory k.wanted k.ask connector link before.run old new e f once
    ready t.yielded t.rest in
    yielded_in k later before.run after.run e f same t.yielded more.0
    (run_by records k before after e r h)) yields

-- one more ask
pub fed_more : {S L I M B R N : Type 0} (connector : connectors.Ghosts S L) (link : links.Ghosts L)
    (records : N → Option (List R)) (k later : Kind I M B R) → IsLawful k
    → (before after : Progress N I) (old new : Asked S L) (e : SessionEvent I)
    (r : Result (Option AttemptEnd) Stop) (ask : Phase) (first : S)
    → ask ≡ k.ask (reverse before.run)
    → AsksFor {E = OutOfMemory} k.wanted connector link ask old (Ok e) new
    → AdvancesBy k records before e r after → later ≡ k → before.stuck ≡ false
    → IsFed k connector link before old first → IsFed later connector link after new first
fed_more connector link records k later law before after old new e r ask first next asks h same
    going fed = record {
      ready = ready_of connector link records k later law.follows before after old new e r ask next
          asks h same (fed.ready going);
      yields = yields_of connector link records k later before after old new e r ask
          (connector.members first) next asks h same (fed.ready going) (fed.yields going);
      yielded = yielded_of connector link records k later before after old new e r ask
          (connector.members first) next asks h same (fed.ready going) (fed.yields going);
    }

-- ---- a terminal event

pub ends_by : {I M B R N : Type 0} (records : N → Option (List R)) (k later : Kind I M B R)
    (members : Option (List Member)) (old new : Progress N I) (e : SessionEvent I)
    (r : Result (Option AttemptEnd) Stop) → later ≡ k → AdvancesBy k records old e r new
    → IsOrderlyOf later (reverse new.run)
    → IfSome members (λ m. AllYieldedOf k m (e ∷ reverse old.run))
    → IfErr r (EndsFor k members old.run e)
ends_by records k later members old new e (Ok end) same h orderly yielded = tt
ends_by {I} {M} {B} {R} records k later members old new e (Err (stops.Terminal end)) same h orderly
    yielded =
    record {
      refused = h.refused;
      orderly = subst (λ (x : Kind I M B R × List (SessionEvent I)).
          IsOrderlyOf x.0 (reverse x.1)) (λ i. (same i, h.run_is i)) orderly;
      yielded = yielded;
    }
ends_by records k later members old new e (Err stops.OutOfMemory) same h orderly yielded = tt

-- by what an ask yielded
stops_of : {I M B R : Type 0} (k : Kind I M B R) (members : Option (List Member))
    (run : List (SessionEvent I)) (e : SessionEvent I) (r : Result (Option AttemptEnd) Stop)
    → does_answer (k.ask (reverse run)) e ≡ true → IfErr r (EndsFor k members run e)
    → IfErr r (StopsFor k members run)
stops_of k members run e (Ok end) answers h = tt
stops_of k members run e (Err (stops.Terminal end)) answers h = (e, answers, h)
stops_of k members run e (Err stops.OutOfMemory) answers h = tt

pub stops_by : {S L I M B R N : Type 0} (connector : connectors.Ghosts S L) (link : links.Ghosts L)
    (records : N → Option (List R)) (k later : Kind I M B R) (before after : Progress N I)
    (old new : Asked S L) (e : SessionEvent I) (r : Result (Option AttemptEnd) Stop) (ask : Phase)
    (first : S) → ask ≡ k.ask (reverse before.run)
    → AsksFor {E = OutOfMemory} k.wanted connector link ask old (Ok e) new
    → AdvancesBy k records before e r after → later ≡ k → before.stuck ≡ false
    → IsOrderlyOf later (reverse after.run) → IsFed k connector link before old first
    → IfErr r (StopsFor k (connector.members first) before.run)
unfolding AllYieldedOf left_of
stops_by connector link records k later before after old new e r ask first next asks h same going
    orderly fed =
    let once = asked_as k.wanted connector link ask _ old new e next asks in
    stops_of k (connector.members first) before.run e r
    (once_answers OutOfMemory k.wanted connector link _ old new e once)
    (ends_by records k later (connector.members first) before after e r same h orderly
    (if_some (connector.members first) (YieldsOf k connector.members link.answers before.run old)
    (λ f. AllYieldedOf k f (e ∷ reverse before.run))
    (λ f t.
    subst (AllYieldedBy k.wanted k.ask f) (last_first before.run e)
    (yields_more OutOfMemory k.wanted k.ask connector link before.run old new e f once
    (fed.ready going) t.yielded t.rest).0) (fed.yields going)))

-- by a moment
pub ends_at_moment : {S L I M B R N : Type 0} (connector : connectors.Ghosts S L)
    (link : links.Ghosts L) (records : N → Option (List R)) (k later : Kind I M B R)
    (before after : Progress N I) (asked : Asked S L) (m : ℤ)
    (r : Result (Option AttemptEnd) Stop) (first : S)
    → AdvancesBy k records before (events.Moment m) r after → later ≡ k
    → IsOrderlyOf later (reverse after.run) → IsFed k connector link before asked first
    → IfErr r (EndsFor k (connector.members first) before.run (events.Moment m))
unfolding AllYieldedOf
ends_at_moment connector link records k later before after asked m r first h same orderly fed =
    ends_by records k later (connector.members first) before after (events.Moment m) r same h
    orderly
    (if_some (connector.members first) (λ f. AllYieldedOf k f (reverse before.run))
    (λ f. AllYieldedOf k f (events.Moment m ∷ reverse before.run)) (λ f t. (tt, t)) fed.yielded)

-- ---- a moment asks nothing

ready_still : {L I M B R N : Type 0} (kind_of : L → Option ResponseKind)
    (records : N → Option (List R)) (k later : Kind I M B R) → FollowsEvents k.ask
    → (before after : Progress N I) (m : ℤ) (r : Result (Option AttemptEnd) Stop) (link : Option L)
    → AdvancesBy k records before (events.Moment m) r after → later ≡ k
    → IsReadyFor (kind_wanted k.wanted) kind_of (k.ask (reverse before.run)) link
    → after.stuck ≡ false
    → IsReadyFor (kind_wanted later.wanted) kind_of (later.ask (reverse after.run)) link
ready_still kind_of records k later follows before after m r link h same ready going =
    let run = ran k records before after (events.Moment m) r h going in
    subst (λ x. IsReadyFor (kind_wanted x.wanted) kind_of (x.ask (reverse after.run)) link)
    (sym same)
    (subst (λ l. IsReadyFor (kind_wanted k.wanted) kind_of (k.ask (reverse l)) link) (sym run)
    (subst (λ l. IsReadyFor (kind_wanted k.wanted) kind_of (k.ask l) link)
    (sym (last_first before.run (events.Moment m)))
    (subst (λ p. IsReadyFor (kind_wanted k.wanted) kind_of p link)
    (sym (follows.moment (reverse before.run) m)) ready)))

yields_still : {S L I M B R N : Type 0} (members : S → Option (List Member))
    (answers : L → Option (List Answer)) (records : N → Option (List R)) (k later : Kind I M B R)
    (before after : Progress N I) (m : ℤ) (r : Result (Option AttemptEnd) Stop) (asked : Asked S L)
    (first : Option (List Member)) → AdvancesBy k records before (events.Moment m) r after
    → later ≡ k → IfSome first (YieldsOf k members answers before.run asked) → after.stuck ≡ false
    → IfSome first (YieldsOf later members answers after.run asked)
unfolding AllYieldedOf left_of
yields_still members answers records k later before after m r asked first h same yields going =
    let run = ran k records before after (events.Moment m) r h going in
    let more = sym (last_first before.run (events.Moment m)) in
    if_some first (YieldsOf k members answers before.run asked)
    (YieldsOf later members answers after.run asked)
    (λ f t.
    subst (λ x. YieldsOf x members answers after.run asked f) (sym same)
    (subst (λ l. YieldsOf k members answers l asked f) (sym run) (record {
      yielded = subst (AllYieldedBy k.wanted k.ask f) more (tt, t.yielded);
      rest = subst (λ l.
          Holds members answers (left_after_by k.ask f l) asked.connector asked.link) more t.rest;
    }))) yields

yielded_still : {I M B R N : Type 0} (records : N → Option (List R)) (k later : Kind I M B R)
    (before after : Progress N I) (m : ℤ) (r : Result (Option AttemptEnd) Stop)
    (first : Option (List Member)) → AdvancesBy k records before (events.Moment m) r after
    → later ≡ k → IfSome first (λ f. AllYieldedOf k f (reverse before.run))
    → IfSome first (λ f. AllYieldedOf later f (reverse after.run))
unfolding AllYieldedOf
yielded_still records k later before after m r first h same yielded =
    if_some first (λ f. AllYieldedOf k f (reverse before.run))
    (λ f. AllYieldedOf later f (reverse after.run))
    (λ f t.
    yielded_in k later before.run after.run (events.Moment m) f same t
    (subst (AllYieldedBy k.wanted k.ask f) (sym (last_first before.run (events.Moment m))) (tt, t))
    (run_by records k before after (events.Moment m) r h)) yielded

-- one more moment
pub fed_still : {S L I M B R N : Type 0} (connector : connectors.Ghosts S L) (link : links.Ghosts L)
    (records : N → Option (List R)) (k later : Kind I M B R) → IsLawful k
    → (before after : Progress N I) (m : ℤ) (r : Result (Option AttemptEnd) Stop)
    (asked : Asked S L) (first : S) → AdvancesBy k records before (events.Moment m) r after
    → later ≡ k → before.stuck ≡ false → IsFed k connector link before asked first
    → IsFed later connector link after asked first
fed_still connector link records k later law before after m r asked first h same going fed =
    record {
      ready = ready_still link.kind records k later law.follows before after m r asked.link h same
          (fed.ready going);
      yields = yields_still connector.members link.answers records k later before after m r asked
          (connector.members first) h same (fed.yields going);
      yielded = yielded_still records k later before after m r (connector.members first) h same
          fed.yielded;
    }

-- ---- the moments

pub timed_after : {I M B R : Type 0} (k : Kind I M B R) (run run' : List (SessionEvent I))
    → IsAboutToAsk k run → AddsAnswerTo k.ask run run' → IsTimedOf k (reverse run')
unfolding IsTimedOf
timed_after k run run' h adds =
    about_timed k.subject k.ask run run' h.timed h.unsynced h.ends adds

pub opening_after : {I M B R : Type 0} (k : Kind I M B R) (run run' : List (SessionEvent I))
    → IsAboutToAsk k run → AddsAnswerTo k.ask run run'
    → has_synced k.subject (reverse run') ≡ false → IsOpening k run'
opening_after k run run' h adds unsynced = record {
  timed = timed_after k run run' h adds;
  unsynced = unsynced;
  ends = ends_unmoved k.ask run run' adds;
}

pub synced_after : {I M B R : Type 0} (k : Kind I M B R) → IsLawful k
    → (old new : List (SessionEvent I)) → GoesOn old new → IsSyncedOf k (reverse old)
    → IsSyncedOf k (reverse new)
unfolding IsTimedOf
synced_after k law old new on at =
    let after = synced_on k.subject old new law.unread on (at.timed, at.synced) in
    record { timed = after.0; synced = after.1 }

-- ---- of X.509 sessions

pub one_step : (rules : Rules) (run : List Event) → IsFirstStep (x509 rules) run
    → IsOneStep (steps_of (subject rules) run)
one_step rules run (m, is, within) = (Accept m rules.limits, is, within)
