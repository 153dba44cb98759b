-- What one more event does to what is kept of a run.
use Rattle.std.proofs.Common.{◌≡◌, Bool, true, false, cond, List, [], ◌∷◌, ◌++◌, reverse, Option}
use Rattle.std.proofs.Common.{None, Some, Ok, Err, inl, refl, sym, ap, ◌∙◌, subst}
use Rattle.std.specs.Prelude.{ℤ, is_some, IsTrue, IfSome}
use Rattle.std.specs.Borrow.{Bor}
use Rattle.std.specs.Cmp.{IsEquivalence}
use Rattle.std.specs.Option.{option_or, option_map, option_to_list}
use Rattle.std.proofs.lemmas.List.{append-nil}
use Rattle.spf_view.specs.Views.{Accepted, Denied, Outcome, Passed, Subject, outcome}
use Rattle.spf_view.specs.Keeping.{IsAt, kept_with_any}
use Rattle.spf_view.specs.Sessions.{Grows}
use Rattle.spf_view.specs.Standing.{Kept}
use Rattle.spf_view.specs.Steps.{Accept, Deny, Step, step_in, step_with, steps_of}
use Rattle.spf_view.proofs.KeepingLemmas.{at_more, outcome_at, synced_at}
use Rattle.spf_view.proofs.ViewLemmas.{last_first, steps_more}
use Rattle.spf_system.specs.declared.pacer.AttemptEnd.{AttemptEnd}
use Rattle.spf_feed.specs.declared.event.SessionEvent.{SessionEvent}
use Rattle.spf_feed.specs.declared.event.SessionEvent.TheVariants as events
use Rattle.spf_feed.specs.declared.phase.Phase.{Phase}
use Rattle.spf_feed.specs.declared.record.MetricsRecord.{MetricsRecord}
use Rattle.spf_feed.specs.declared.record.MetricsRecord.TheVariants as x509_records
use Rattle.spf_feed.specs.declared.step.Denial.{Denial}
use Rattle.spf_feed.specs.declared.turn.Records.{Records}
use Rattle.spf_feed.specs.declared.turn.Terminal.{Terminal}
use Rattle.spf_feed.specs.declared.turn.Turn.{Turn}
use Rattle.spf_feed.specs.declared.turn.Turn.TheVariants as turns
use Rattle.spf_feed.specs.Events.{map_item}
use Rattle.spf_feed.specs.Following.{TurnTaken}
use Rattle.spf_feed.specs.Handing.{TurnState, WentThrough, changes_any}
use Rattle.spf_feed.specs.Items.{Event, Received, Rules, context_in, subject}
use Rattle.spf_feed.specs.Received.{received_ask, received_outcome, received_records}
use Rattle.spf_feed.specs.Received.{received_refusal}
use Rattle.spf_feed.specs.Run.{ask_of, asked_by, stream}
use Rattle.spf_feed.specs.Steps.{HasStep, Material, PlainStep, same_material}
use Rattle.spf_feed.specs.Turns.{IsTurn, listed}
use Rattle.spf_feed.proofs.Alike.{material_equiv}
use Rattle.spf_feed.proofs.Turned.{turn_at, went}
use Rattle.spf_feed.proofs.TurnLemmas.{asked-map_item, moment-map_item}
use Rattle.spf_feeder.specs.Attempts.{attempt_end_by, end_with, gave_accepted_by, gave_with}
use Rattle.spf_feeder.specs.Attempts.{is_accepted}
use Rattle.spf_feeder.specs.declared.session.Stop.{Stop}
use Rattle.spf_feeder.specs.declared.session.Stop.TheVariants as stops
use Rattle.spf_feeder.specs.declared.x509_session.Foreseen.{Foreseen}
use Rattle.spf_feeder.specs.declared.x509_session.Place.{Place}
use Rattle.spf_feeder.specs.Kept.{Accepts, Advanced, AdvancesBy, Denies, Ended, Going, GoingBy}
use Rattle.spf_feeder.specs.Kept.{Passes, PlainTurn, Progress, PublishedBy, PublishesBy}
use Rattle.spf_feeder.specs.Kept.{PublishesTurn, StepAppended, Stopped, Terminates, WentBy}
use Rattle.spf_feeder.specs.Kept.{WentWith, accepts, accepts_in, turn_in}
use Rattle.spf_feeder.specs.Kinds.{Kind, x509}
use Rattle.spf_feeder.specs.Taking.{AdvancedBy, Foresees, LeavesAttempt, TakesNone}

-- ---- the step and the records of a turn

abbrev pub step_of_turn : {M L R : Type 0} → L → PlainTurn M R → Option (Step M L Denial)
step_of_turn limits (Terminates end) = None
step_of_turn limits (Accepts m) = Some (Accept m limits)
step_of_turn limits (Denies reason list) = Some (Deny reason)
step_of_turn limits (Passes list) = None

-- nothing was published or recorded before
abbrev pub at_none : {M L R : Type 0} → Option (Kept M Denial) → TurnState M L Denial R
at_none kept = record { kept = kept; steps = Some []; records = Some [] }

abbrev pub at_turn : {M L R : Type 0} → Option (Kept M Denial) → Option (Step M L Denial) → List R
    → TurnState M L Denial R
at_turn kept step records =
    record { kept = kept; steps = Some (option_to_list step); records = Some records }

pub went_through : {M L R : Type 0} (same : M → M → Bool) (step : Option (Step M L Denial))
    (yielded : List R) (kept : Option (Kept M Denial)) (steps : Option (List (Step M L Denial)))
    (records : List R) (kept' : Option (Kept M Denial)) (steps' : Option (List (Step M L Denial)))
    → WentWith same step yielded kept steps records kept' steps'
    → WentThrough same step yielded (at_none kept) (at_turn kept' step records)
    (changes_any same kept step)
went_through same step yielded kept steps records kept' steps' w = record {
  steps_are = refl;
  records_are = w.records_are;
  kept_is = w.kept_is;
  changed_is = refl;
}

appended_by : {M L R : Type 0} (same : M → M → Bool) (update : R) (limits : L)
    (turn : PlainTurn M R) (kept kept' : Option (Kept M Denial))
    (steps steps' : Option (List (Step M L Denial))) (records : List R)
    → WentBy same update limits turn kept steps records kept' steps'
    → StepAppended steps steps' (step_of_turn limits turn)
appended_by same update limits (Terminates end) kept kept' steps steps' records w = absurd w
appended_by same update limits (Accepts m) kept kept' steps steps' records w = w.steps_are
appended_by same update limits (Denies reason list) kept kept' steps steps' records w = w.steps_are
appended_by same update limits (Passes list) kept kept' steps steps' records w = w.steps_are

same_option : {X : Type 0} (a b : Option X) → option_to_list a ≡ option_to_list b → a ≡ b
same_option None None h = refl
same_option None (Some y) h = absurd cc
same_option (Some x) None h = absurd cc
same_option (Some x) (Some y) h = let e : x ≡ y = cc in ap Some e

-- whether a step accepts something
accepting : {M L D : Type 0} → Option (Step M L D) → Bool
accepting None = false
accepting (Some (Accept m limits)) = true
accepting (Some (Deny reason)) = false

accepts_by : {M L R : Type 0} (limits : L) (turn : PlainTurn M R)
    → accepts_in turn ≡ accepting (step_of_turn limits turn)
unfolding accepting
accepts_by limits (Terminates end) = refl
accepts_by limits (Accepts m) = refl
accepts_by limits (Denies reason list) = refl
accepts_by limits (Passes list) = refl

accepted_by : {M L D : Type 0} (limits : L) (o : Outcome M D)
    → accepting (step_in limits o) ≡ is_accepted o
unfolding accepting
accepted_by limits (Accepted m) = refl
accepted_by limits (Denied d) = refl
accepted_by limits Passed = refl

-- the step of an event after a history
abbrev pub step_after : {I M B R : Type 0} → Kind I M B R → List (SessionEvent I) → SessionEvent I
    → Option (Step M B Denial)
step_after k past e = step_in k.subject.limits (outcome k.subject e past)

-- What a turn that went through did, where `accepted` says whether it accepts something.
pub record TurnDone {I M B R : Type 0} (k : Kind I M B R) (run : List (SessionEvent I))
    (e : SessionEvent I) (accepted : Bool) (kept kept' : Option (Kept M Denial))
    (steps steps' : Option (List (Step M B Denial))) (records : List R) : Type 0 where
  pub none : k.refusal (reverse run) e ≡ None
  pub steps_are : StepAppended steps steps' (step_after k (reverse run) e)
  pub kept_is : kept' ≡ kept_with_any k.subject.is_same kept (step_after k (reverse run) e)
  pub records_are : records ≡ k.records (reverse run) e
  pub accepted_is : accepted ≡ is_accepted (outcome k.subject e (reverse run))

pub turn_done : {I M B R : Type 0} (k : Kind I M B R) (update : R) (run : List (SessionEvent I))
    (e : SessionEvent I) (turn : PlainTurn M R) (kept kept' : Option (Kept M Denial))
    (steps steps' : Option (List (Step M B Denial))) (records : List R) (changed : Bool)
    → k.refusal (reverse run) e ≡ None
    → WentThrough k.subject.is_same (step_after k (reverse run) e) (k.records (reverse run) e)
    (at_none kept) (at_turn kept' (step_of_turn k.subject.limits turn) records) changed
    → WentBy k.subject.is_same update k.subject.limits turn kept steps records kept' steps'
    → TurnDone k run e (accepts_in turn) kept kept' steps steps' records
turn_done k update run e turn kept kept' steps steps' records changed none through w =
    let limits = k.subject.limits in
    let same : step_of_turn limits turn ≡ step_after k (reverse run) e =
    same_option (step_of_turn limits turn) (step_after k (reverse run) e) through.steps_are in
    record {
      none = none;
      steps_are = subst (λ s. StepAppended steps steps' s) same
          (appended_by k.subject.is_same update limits turn kept kept' steps steps' records w);
      kept_is = through.kept_is;
      records_are = through.records_are;
      accepted_is = accepts_by limits turn ∙ ap accepting same
          ∙ accepted_by limits (outcome k.subject e (reverse run));
    }

-- ---- the publisher has exactly the steps of the run

published_with : {X : Type 0} (steps steps' : Option (List X)) (step : Option X)
    (before after : List X) → IfSome steps (λ s. s ≡ before)
    → StepAppended steps steps' step → before ++ option_to_list step ≡ after
    → IfSome steps' (λ s. s ≡ after)
published_with steps steps' None before after p same is =
    subst (λ o. IfSome o (λ s. s ≡ after)) (sym same)
    (subst (λ l. IfSome steps (λ s. s ≡ l)) (sym (append-nil before) ∙ is) p)
published_with None None (Some x) before after p h is = tt
published_with None (Some l) (Some x) before after p h is = absurd h
published_with (Some l) None (Some x) before after p h is = absurd h
published_with (Some l) (Some m) (Some x) before after p h is =
    h ∙ ap (λ s. s ++ x ∷ []) p ∙ is

pub published_still : {E M L D : Type 0} (s : Subject E M L D) (run run' : List E)
    (steps steps' : Option (List (Step M L D))) → run' ≡ run → steps' ≡ steps
    → PublishedBy s steps run → PublishedBy s steps' run'
published_still s run run' steps steps' longer same p =
    subst (λ l. PublishedBy s steps' l) (sym longer)
    (subst (λ x. PublishedBy s x run) (sym same) p)

-- ---- what is kept in place

kept_after : {I M B : Type 0} (s : Subject (SessionEvent I) M B Denial)
    (o : IsEquivalence s.is_same) (past : List (SessionEvent I)) (now : Option ℤ)
    (kept kept' : Option (Kept M Denial)) (e : SessionEvent I) → IsAt s past now kept
    → kept' ≡ kept_with_any s.is_same kept (step_in s.limits (outcome s e past))
    → IsAt s (e ∷ past) (option_or (s.moment e) now) kept'
kept_after s o past now kept kept' e at is =
    let step : step_in s.limits (outcome s e past) ≡ step_with s (is_some kept) now e =
    ap (step_in s.limits) (outcome_at s past now kept e at) in
    let same : kept_with_any s.is_same kept (step_with s (is_some kept) now e) ≡ kept' =
    sym (is ∙ ap (kept_with_any s.is_same kept) step) in
    subst (λ k. IsAt s (e ∷ past) (option_or (s.moment e) now) k) same
    (at_more s o past e now kept at)

going_more : {I M B R : Type 0} (k : Kind I M B R) (o : IsEquivalence k.subject.is_same)
    (run : List (SessionEvent I)) (e : SessionEvent I) (accepted : Bool)
    (kept kept' : Option (Kept M Denial)) (steps steps' : Option (List (Step M B Denial)))
    (records : List R) (now now' : Option ℤ) (phase phase' : Phase) (gave gave' : Bool)
    → GoingBy k run kept now phase gave
    → TurnDone k run e accepted kept kept' steps steps' records
    → now' ≡ option_or (k.subject.moment e) now → k.ask (e ∷ reverse run) ≡ phase'
    → gave' ≡ gave_with gave accepted e → GoingBy k (run ++ e ∷ []) kept' now' phase' gave'
going_more k o run e accepted kept kept' steps steps' records now now' phase phase' gave gave' g
    done moment asks gives =
    let past = reverse run in
    let at : IsAt k.subject (e ∷ past) now' kept' =
    subst (λ m. IsAt k.subject (e ∷ past) m kept') (sym moment)
    (kept_after k.subject o past now kept kept' e g.at done.kept_is) in
    let gave_is : gave_accepted_by k.subject (e ∷ past) ≡ gave' =
    (λ i. gave_with (g.gave_is i) (sym done.accepted_is i) e) ∙ sym gives in
    let more = sym (last_first run e) in
    record {
      at = subst (λ l. IsAt k.subject l now' kept') more at;
      asks = subst (λ l. k.ask l ≡ phase') more asks;
      gave_is = subst (λ l. gave_accepted_by k.subject l ≡ gave') more gave_is;
    }

-- ---- the end of an attempt

end-map_item : {I J : Type 0} (f : I → J) (ask : Phase) (gave : Bool) (e : SessionEvent I)
    → end_with ask gave (map_item f e) ≡ end_with ask gave e
end-map_item f ask gave events.ClientMade = refl
end-map_item f ask gave (events.ClientFailed x) = refl
end-map_item f ask gave events.Connected = refl
end-map_item f ask gave (events.ConnectStatus x) = refl
end-map_item f ask gave (events.Item x) = refl
end-map_item f ask gave (events.ItemStatus x) = refl
end-map_item f ask gave events.StreamEnd = refl
end-map_item f ask gave (events.Moment x) = refl
end-map_item f ask gave events.Close = refl

end_is : {I J M B R : Type 0} (k : Kind I M B R) (read : I → J) (run : List (SessionEvent I))
    (e : SessionEvent I) (accepted : Bool) (phase : Phase) (gave : Bool) (end : Option AttemptEnd)
    → accepted ≡ is_accepted (outcome k.subject e (reverse run))
    → gave_accepted_by k.subject (reverse run) ≡ gave → k.ask (e ∷ reverse run) ≡ phase
    → end ≡ cond accepted None (end_with phase gave (map_item read e))
    → end ≡ attempt_end_by k.subject k.ask (reverse run) e
end_is k read run e accepted phase gave end accepts_is gave_is asks is =
    is ∙ ap (λ o. cond accepted None o) (end-map_item read phase gave e)
    ∙ (λ i. cond (accepts_is i) None (end_with (sym asks i) (sym gave_is i) e))

-- the same event, as it was received
pub leaves_by : {I J : Type 0} (e : SessionEvent I) (received seen : SessionEvent J)
    (ask : SessionEvent J → Phase) (gave accepted accepts : Bool) (phase : Phase) (gave' : Bool)
    (end end' : Option AttemptEnd) → received ≡ seen → phase ≡ ask received → accepted ≡ accepts
    → gave' ≡ gave_with gave accepted e → end ≡ end_with phase gave received
    → end' ≡ cond accepted None end → LeavesAttempt e seen (ask seen) gave accepts phase gave' end'
leaves_by e received seen ask gave accepted accepts phase gave' end end' is next same gives ends
    unless =
    subst (λ r. LeavesAttempt e r (ask r) gave accepts phase gave' end') is
    (subst (λ b. LeavesAttempt e received (ask received) gave b phase gave' end') same (record {
      phase_is = next;
      gave_is = gives;
      end_is = unless ∙ ap (λ o. cond accepted None o) ends;
    }))

-- ---- all of it

pub advanced_with : {I J M B R : Type 0} (k : Kind I M B R) (o : IsEquivalence k.subject.is_same)
    (Goes : List (SessionEvent I) → Type 0) (read : I → J) (run : List (SessionEvent I))
    (e : SessionEvent I) (accepted : Bool) (kept kept' : Option (Kept M Denial))
    (steps steps' : Option (List (Step M B Denial))) (records : List R) (now now' : Option ℤ)
    (asks phase phase' : Phase) (gave gave' : Bool) (end : Option AttemptEnd)
    → TurnDone k run e accepted kept kept' steps steps' records
    → GoingBy k run kept now phase gave
    → LeavesAttempt e (map_item read e) asks gave accepted phase' gave' end
    → now' ≡ option_or (k.subject.moment e) now → k.ask (e ∷ reverse run) ≡ asks
    → PublishedBy k.subject steps run
    → (GoingBy k (run ++ e ∷ []) kept' now' phase' gave' → Goes (run ++ e ∷ []))
    → AdvancedBy k Goes run e steps' records end
advanced_with k o Goes read run e accepted kept kept' steps steps' records now now' asks phase
    phase' gave gave' end done g leaves moment next p goes =
    let asked : k.ask (e ∷ reverse run) ≡ phase' = next ∙ sym leaves.phase_is in record {
      published = published_with steps steps' (step_after k (reverse run) e)
          (steps_of k.subject run) (steps_of k.subject (run ++ e ∷ [])) p done.steps_are
          (sym (steps_more k.subject run e));
      going = goes (going_more k o run e accepted kept kept' steps steps' records now now' phase
          phase' gave gave' g done moment asked leaves.gave_is);
      none = done.none;
      records_are = done.records_are;
      end_is = end_is k read run e accepted phase' gave end done.accepted_is g.gave_is asked
          leaves.end_is;
    }

-- how a turn ends the session
abbrev pub ends_in : {M R : Type 0} → PlainTurn M R → Option Terminal
ends_in (Terminates end) = Some end
ends_in _ = None

-- a turn that was refused
pub refused_with : {I M B R X : Type 0} (k : Kind I M B R) (update : R) (list : X → List R)
    (run : List (SessionEvent I)) (e : SessionEvent I) (turn : PlainTurn M R)
    (kept kept' : Option (Kept M Denial)) (steps steps' : Option (List (Step M B Denial)))
    (stop : Stop) → k.refusal (reverse run) e ≡ ends_in turn
    → PublishesBy k.subject.is_same update list k.subject.limits turn kept steps (Err stop) kept'
    steps' → TakesNone k run e stop
refused_with k update list run e turn kept kept' steps steps' (stops.Terminal end) ends p =
    ends ∙ ap ends_in p.0
refused_with k update list run e turn kept kept' steps steps' stops.OutOfMemory ends p = tt

pub unpublished : {M L R X : Type 0} (same : M → M → Bool) (update : R) (list : X → List R)
    (limits : L) (turn : PlainTurn M R) (kept kept' : Option (Kept M Denial))
    (steps steps' : Option (List (Step M L Denial))) (stop : Stop)
    → PublishesBy same update list limits turn kept steps (Err stop) kept' steps'
    → steps' ≡ steps
unpublished same update list limits turn kept kept' steps steps' (stops.Terminal end) h = h.1
unpublished same update list limits turn kept kept' steps steps' stops.OutOfMemory h = h

-- ---- of a core C as contracts see it, whose kind and whose course are these

pub pushed : {E : Type 0} (old mid new : List E) (e : E) → new ≡ mid ++ e ∷ [] → mid ≡ old
    → new ≡ old ++ e ∷ []
pushed old mid new e is same = is ∙ ap (λ l. l ++ e ∷ []) same

pub advanced_of : {C I M B R N : Type 0} (kind : C → Kind I M B R) (course : C → Progress N I)
    (recorded : N → Option (List R)) (old before : C) (new : Progress N I) (e : SessionEvent I)
    (Goes : List (SessionEvent I) → Type 0) (steps : Option (List (Step M B Denial)))
    (records : List R) (end : Option AttemptEnd) → before ≡ old
    → AdvancedBy (kind before) Goes (course before).run e steps records end
    → new.run ≡ (course before).run ++ e ∷ [] → new.stuck ≡ false
    → Grows (recorded (course before).recorder) (recorded new.recorder) records
    → Advanced (kind old) recorded (course old) e end new
advanced_of kind course recorded old before new e Goes steps records end is done run goes grown =
    subst (λ o. Advanced (kind o) recorded (course o) e end new) is (record {
      run_is = run;
      goes_on = goes;
      unrefused = done.none;
      end_is = done.end_is;
      records_are = subst (Grows (recorded (course before).recorder) (recorded new.recorder))
          done.records_are grown;
    })

pub stopped_of : {C I M B R N : Type 0} (kind : C → Kind I M B R) (course : C → Progress N I)
    (recorded : N → Option (List R)) (old before : C) (new : Progress N I) (e : SessionEvent I)
    (stop : Stop) → before ≡ old → TakesNone (kind before) (course before).run e stop
    → new.run ≡ (course before).run → new.stuck ≡ true
    → AdvancesBy (kind old) recorded (course old) e (Err stop) new
stopped_of kind course recorded old before new e (stops.Terminal end) is refused run stuck =
    subst (λ o. Ended (kind o) (course o) e end new) is
    (record { run_is = run; stuck_is = stuck; refused = refused })
stopped_of kind course recorded old before new e stops.OutOfMemory is refused run stuck =
    subst (λ o. Stopped (course o) e new) is (record { run_is = inl run; stuck_is = stuck })

-- ---- of an X.509 session

-- the picker that is lent picks as the one that is kept
pub lent_picker : {A B : Type 0} (f : A → B) (lent : Option (Bor A)) (kept : Option A)
    → option_map (λ p. p.now) lent ≡ kept → option_map (λ p. f p.now) lent ≡ option_map f kept
lent_picker f None kept h = ap (option_map f) h
lent_picker f (Some x) kept h = ap (option_map f) h

-- the turn of an event as it is received
abbrev pub TurnOf : Rules → Rules → Bool → Option ℤ → Received → Turn → Type 0
TurnOf rules lent synced now received turn =
    IsTurn (received_refusal rules.deadline synced received)
    (received_outcome lent synced now received) (received_records synced rules.limits received) turn

-- the turn that was found for the event as it was received
pub turn_as : (rules lent : Rules) (synced : Bool) (now : Option ℤ) (e : Event)
    (received : Received) (turn : Turn) → lent ≡ rules → received ≡ map_item context_in e
    → TurnOf rules lent synced now received turn
    → TurnOf rules rules synced now (map_item context_in e) turn
turn_as rules lent synced now e received turn p q h =
    subst (λ x. TurnOf rules rules synced now x turn) q
    (subst (λ r. TurnOf rules r synced now received turn) p h)

taken : (rules : Rules) (turn : Turn) (kept kept' : Option (Kept Material Denial))
    (steps steps' : Option (List PlainStep)) (records : List MetricsRecord)
    → WentBy same_material x509_records.Update rules.limits (turn_in turn) kept steps records kept'
    steps'
    → TurnTaken rules.limits turn (at_none kept)
    (at_turn kept' (step_of_turn rules.limits (turn_in turn)) records)
    (Ok (changes_any same_material kept (step_of_turn rules.limits (turn_in turn))))
taken rules (turns.Terminal end) kept kept' steps steps' records w = absurd w
taken rules (turns.Accepted context choice) kept kept' steps steps' records w =
    (tt, went_through same_material _ _ kept steps records kept' steps' w)
taken rules (turns.Denied reason list) kept kept' steps steps' records w =
    (tt, went_through same_material _ _ kept steps records kept' steps' w)
taken rules (turns.Passed list) kept kept' steps steps' records w =
    (tt, went_through same_material _ _ kept steps records kept' steps' w)

pub advanced_by : (rules : Rules) (run : List Event) (e : Event) (synced : Bool) (place : Place)
    (seen : Foreseen) (kept kept' : Option (Kept Material Denial))
    (steps steps' : Option (List PlainStep)) (records : Records) → synced ≡ is_some kept
    → Foresees rules synced place e seen
    → PublishesTurn rules.limits seen.turn kept steps (Ok records) kept' steps'
    → (IsTrue (is_some kept') → HasStep steps') → PublishedBy (subject rules) steps run
    → Going rules run steps kept place.moment place.phase place.gave_accepted
    → AdvancedBy (x509 rules)
    (λ r. Going rules r steps' kept' seen.place.moment seen.place.phase seen.place.gave_accepted)
    run e steps' (listed records) seen.end
advanced_by rules run e synced place seen kept kept' steps steps' records is h w step p (g, has) =
    let past = reverse run in
    let at = subst (λ b. Foresees rules b place e seen) is h in
    let turn = turn_at rules past place.moment kept e seen.turn g.at at.turn in
    let through = went material_equiv rules past place.moment e (at_none kept)
    (at_turn kept' (step_of_turn rules.limits (turn_in seen.turn)) (listed records)) _ seen.turn
    g.at turn (taken rules seen.turn kept kept' steps steps' (listed records) w) in
    let done = turn_done (x509 rules) x509_records.Update run e (turn_in seen.turn) kept kept' steps
    steps' (listed records) _ through.none through.went w in
    let asks : ask_of context_in rules (e ∷ past)
    ≡ received_ask place.phase (is_some kept) (map_item context_in e) =
    (λ i. asked_by context_in (g.asks i)
    (synced_at (subject rules) past place.moment kept g.at i) e)
    ∙ asked-map_item context_in place.phase (is_some kept) e in
    advanced_with (x509 rules) material_equiv
    (λ r. Going rules r steps' kept' seen.place.moment seen.place.phase seen.place.gave_accepted)
    context_in run e (accepts seen.turn) kept kept' steps steps' (listed records) place.moment
    seen.place.moment _ place.phase seen.place.phase place.gave_accepted seen.place.gave_accepted
    seen.end done g at.leaves
    (at.moment ∙ ap (λ m. option_or m place.moment) (sym (moment-map_item context_in e))) asks p
    (λ goes. (goes, step))

ends_by : (rules : Rules) (past : List Event) (e : Event) (list : List MetricsRecord) (turn : Turn)
    → IsTurn ((stream rules).refusal past e) (outcome (subject rules) e past) list turn
    → (stream rules).refusal past e ≡ ends_in (turn_in turn)
ends_by rules past e list (turns.Terminal end) h = h
ends_by rules past e list (turns.Accepted context choice) h = h.0
ends_by rules past e list (turns.Denied reason records) h = h.0
ends_by rules past e list (turns.Passed records) h = h.0

pub refused_by : (rules : Rules) (run : List Event) (e : Event) (synced : Bool)
    (place : Place) (seen : Foreseen) (kept kept' : Option (Kept Material Denial))
    (steps steps' : Option (List PlainStep)) (stop : Stop) → synced ≡ is_some kept
    → Foresees rules synced place e seen
    → PublishesTurn rules.limits seen.turn kept steps (Err stop) kept' steps'
    → Going rules run steps kept place.moment place.phase place.gave_accepted
    → TakesNone (x509 rules) run e stop
refused_by rules run e synced place seen kept kept' steps steps' stop is h p (g, has) =
    let at = subst (λ b. Foresees rules b place e seen) is h in
    refused_with (x509 rules) x509_records.Update listed run e (turn_in seen.turn) kept kept' steps
    steps' stop
    (ends_by rules (reverse run) e _ seen.turn
    (turn_at rules (reverse run) place.moment kept e seen.turn g.at at.turn)) p

pub going_at : (rules : Rules) (run run' : List Event) (steps : Option (List PlainStep))
    (kept : Option (Kept Material Denial)) (now : Option ℤ) (phase : Phase) (gave : Bool)
    → run' ≡ run → Going rules run steps kept now phase gave
    → Going rules run' steps kept now phase gave
going_at rules run run' steps kept now phase gave same g =
    subst (λ l. Going rules l steps kept now phase gave) (sym same) g
