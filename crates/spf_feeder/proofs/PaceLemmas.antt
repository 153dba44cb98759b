-- What one more event does to the delays of a run.
use Rattle.std.proofs.Common.{◌≡◌, ℕ, Bool, true, false, not, ◌||◌, ◌&&◌, List, [], ◌∷◌, ◌++◌}
use Rattle.std.proofs.Common.{reverse, Option, None, Some, refl, sym, ap, ◌∙◌, subst}
use Rattle.std.specs.Prelude.{is_some}
use Rattle.std.specs.Option.{option_map_or}
use Rattle.spf_system.specs.declared.pacer.AttemptEnd.{AttemptEnd}
use Rattle.spf_system.specs.declared.pace.Pace.{Pace}
use Rattle.spf_system.specs.Delays.{PaceStep}
use Rattle.spf_system.specs.Pacing.{AreSynced, Paces, ended, paced_by, synchronised}
use Rattle.spf_system.proofs.PaceLemmas.{paces_as, step_synced}
use Rattle.spf_view.specs.Views.{Accepted, Subject, brings, denied_or_passed, has_synced}
use Rattle.spf_view.specs.Views.{last_moment, outcome}
use Rattle.spf_view.proofs.ViewLemmas.{last_first}
use Rattle.spf_feed.specs.declared.event.SessionEvent.{SessionEvent}
use Rattle.spf_feed.specs.declared.phase.Phase.{Phase}
use Rattle.spf_feeder.specs.Attempts.{attempt_end_by, end_with, gave_accepted_by, is_accepted}
use Rattle.spf_feeder.specs.Pacing.{KeepsPaceBy, opens_by, pace_steps}

-- ---- a pacer is synchronised where the run is

passed_over : (M : Type 0) {D : Type 0} (synced : Bool) (o : Option D)
    → is_accepted {M = M} (denied_or_passed synced o) ≡ false
passed_over M synced None = refl
passed_over M true (Some d) = refl
passed_over M false (Some d) = refl

pub accepted_brings : {M D : Type 0} (synced : Bool) (o : Option M) (d : Option D)
    → is_accepted (option_map_or Accepted o (denied_or_passed synced d)) ≡ is_some o
accepted_brings {M} synced None d = passed_over M synced d
accepted_brings synced (Some m) d = refl

synced_next : {E M L D : Type 0} (s : Subject E M L D) (past : List E) (e : E)
    → has_synced s (e ∷ past) ≡ (is_accepted (outcome s e past) || has_synced s past)
synced_next s past e =
    ap (λ b. b || has_synced s past)
    (sym (accepted_brings (has_synced s past)
    (brings s (has_synced s past) (last_moment s past) e) (s.denial e)))

steps_synced : {I M L D : Type 0} (s : Subject (SessionEvent I) M L D)
    (ask : List (SessionEvent I) → Phase) (past : List (SessionEvent I))
    → AreSynced (has_synced s past) (pace_steps s ask past)
steps_synced s ask [] = λ words. refl
steps_synced s ask (e ∷ past) = λ words.
    step_synced (is_accepted (outcome s e past)) (has_synced s past)
    (end_with (ask (e ∷ past)) (gave_accepted_by s past) e) (pace_steps s ask past)
    (steps_synced s ask past) words
    ∙ sym (synced_next s past e)

-- ---- one more event

-- an event that ends no attempt and opens nothing
pub passes_on : {I M L D : Type 0} (s : Subject (SessionEvent I) M L D)
    (ask : List (SessionEvent I) → Phase) (run : List (SessionEvent I)) (e : SessionEvent I)
    (pace : Pace) → attempt_end_by s ask (reverse run) e ≡ None
    → opens_by s (reverse run) e ≡ false → KeepsPaceBy s ask run pace
    → KeepsPaceBy s ask (run ++ e ∷ []) pace
passes_on s ask run e pace none unopened keeps =
    let past = reverse run in
    paces_as (pace_steps s ask past) (pace_steps s ask (reverse (run ++ e ∷ []))) pace
    (ap (λ l. pace_steps s ask l (reverse pace.words.items)) (last_first run e)
    ∙ (λ i. paced_by (has_synced s past) (unopened i) (none i) (pace_steps s ask past)
    (reverse pace.words.items))) keeps

-- an event that ends an attempt
ends_on : {I M L D : Type 0} (s : Subject (SessionEvent I) M L D)
    (ask : List (SessionEvent I) → Phase) (run : List (SessionEvent I)) (e : SessionEvent I)
    (end : AttemptEnd) (old new : Pace)
    → ((synced : Bool) (steps : List ℕ → List PaceStep) → AreSynced synced steps → Paces steps old
    → Paces (ended synced end steps) new)
    → attempt_end_by s ask (reverse run) e ≡ Some end → KeepsPaceBy s ask run old
    → KeepsPaceBy s ask (run ++ e ∷ []) new
ends_on s ask run e end old new after is keeps =
    let past = reverse run in
    let steps = pace_steps s ask past in
    paces_as (ended (has_synced s past) end steps) (pace_steps s ask (reverse (run ++ e ∷ []))) new
    (ap (λ l. pace_steps s ask l (reverse new.words.items)) (last_first run e)
    ∙ ap (λ o. paced_by (has_synced s past) (opens_by s past e) o steps (reverse new.words.items))
    is) (after (has_synced s past) steps (steps_synced s ask past) keeps)

-- the first accepted item
opens_on : {I M L D : Type 0} (s : Subject (SessionEvent I) M L D)
    (ask : List (SessionEvent I) → Phase) (run : List (SessionEvent I)) (e : SessionEvent I)
    (old new : Pace)
    → ((steps : List ℕ → List PaceStep) → Paces steps old → Paces (synchronised steps) new)
    → opens_by s (reverse run) e ≡ true → attempt_end_by s ask (reverse run) e ≡ None
    → KeepsPaceBy s ask run old → KeepsPaceBy s ask (run ++ e ∷ []) new
opens_on s ask run e old new first opens none keeps =
    let past = reverse run in
    let steps = pace_steps s ask past in
    paces_as (synchronised steps) (pace_steps s ask (reverse (run ++ e ∷ []))) new
    (ap (λ l. pace_steps s ask l (reverse new.words.items)) (last_first run e)
    ∙ (λ i. paced_by (has_synced s past) (opens i) (none i) steps (reverse new.words.items)))
    (first steps keeps)

-- ---- whether an item was the first accepted one

opened_by : (accepted synced : Bool) → synced ≡ false → (accepted || synced) ≡ true
    → (accepted && not synced) ≡ true
opened_by true true f t = absurd cc
opened_by true false f t = refl
opened_by false true f t = absurd cc
opened_by false false f t = absurd cc

unopened_by : (accepted synced : Bool) → synced ≡ true → (accepted && not synced) ≡ false
unopened_by true true t = refl
unopened_by false true t = refl
unopened_by accepted false t = absurd cc

never_opened : (accepted synced : Bool) → (accepted || synced) ≡ false
    → (accepted && not synced) ≡ false
never_opened true synced f = absurd cc
never_opened false synced f = refl

opened : {E M L D : Type 0} (s : Subject E M L D) (run : List E) (e : E)
    → has_synced s (reverse run) ≡ false → has_synced s (reverse (run ++ e ∷ [])) ≡ true
    → opens_by s (reverse run) e ≡ true
opened s run e f t =
    opened_by (is_accepted (outcome s e (reverse run))) (has_synced s (reverse run)) f
    (sym (synced_next s (reverse run) e) ∙ ap (has_synced s) (sym (last_first run e)) ∙ t)

pub unopened : {E M L D : Type 0} (s : Subject E M L D) (run : List E) (e : E)
    → has_synced s (reverse run) ≡ true → opens_by s (reverse run) e ≡ false
unopened s run e t =
    unopened_by (is_accepted (outcome s e (reverse run))) (has_synced s (reverse run)) t

still_unopened : {E M L D : Type 0} (s : Subject E M L D) (run : List E) (e : E)
    → has_synced s (reverse (run ++ e ∷ [])) ≡ false → opens_by s (reverse run) e ≡ false
still_unopened s run e f =
    never_opened (is_accepted (outcome s e (reverse run))) (has_synced s (reverse run))
    (sym (synced_next s (reverse run) e) ∙ ap (has_synced s) (sym (last_first run e)) ∙ f)

-- ---- an ask and the pause after it

pub paces_ended : {I M L D : Type 0} (s : Subject (SessionEvent I) M L D)
    (ask : List (SessionEvent I) → Phase) (run run' : List (SessionEvent I)) (e : SessionEvent I)
    (end : Option AttemptEnd) (x : AttemptEnd) (old new : Pace) → run' ≡ run ++ e ∷ []
    → end ≡ attempt_end_by s ask (reverse run) e → end ≡ Some x
    → ((synced : Bool) (steps : List ℕ → List PaceStep) → AreSynced synced steps → Paces steps old
    → Paces (ended synced x steps) new)
    → KeepsPaceBy s ask run old → KeepsPaceBy s ask run' new
paces_ended s ask run run' e end x old new longer is some after keeps =
    subst (λ l. KeepsPaceBy s ask l new) (sym longer)
    (ends_on s ask run e x old new after (sym is ∙ some) keeps)

pub paces_opened : {I M L D : Type 0} (s later : Subject (SessionEvent I) M L D)
    (ask : List (SessionEvent I) → Phase) (run run' : List (SessionEvent I)) (e : SessionEvent I)
    (end : Option AttemptEnd) (was now : Bool) (old new : Pace) → later ≡ s
    → run' ≡ run ++ e ∷ [] → end ≡ attempt_end_by s ask (reverse run) e → end ≡ None
    → was ≡ has_synced s (reverse run) → was ≡ false → now ≡ has_synced later (reverse run')
    → now ≡ true
    → ((steps : List ℕ → List PaceStep) → Paces steps old → Paces (synchronised steps) new)
    → KeepsPaceBy s ask run old → KeepsPaceBy s ask run' new
paces_opened s later ask run run' e end was now old new same longer is none before f after t first
    keeps =
    let synced : has_synced s (reverse (run ++ e ∷ [])) ≡ true =
    (λ i. has_synced (sym same i) (reverse (sym longer i))) ∙ sym after ∙ t in
    subst (λ l. KeepsPaceBy s ask l new) (sym longer)
    (opens_on s ask run e old new first (opened s run e (sym before ∙ f) synced) (sym is ∙ none)
    keeps)

pub paces_passed : {I M L D : Type 0} (s : Subject (SessionEvent I) M L D)
    (ask : List (SessionEvent I) → Phase) (run run' : List (SessionEvent I)) (e : SessionEvent I)
    (end : Option AttemptEnd) (pace : Pace) → run' ≡ run ++ e ∷ []
    → end ≡ attempt_end_by s ask (reverse run) e → end ≡ None → opens_by s (reverse run) e ≡ false
    → KeepsPaceBy s ask run pace → KeepsPaceBy s ask run' pace
paces_passed s ask run run' e end pace longer is none shut keeps =
    subst (λ l. KeepsPaceBy s ask l pace) (sym longer)
    (passes_on s ask run e pace (sym is ∙ none) shut keeps)

pub shut_after : {E M L D : Type 0} (s later : Subject E M L D) (run run' : List E) (e : E)
    (now : Bool) → later ≡ s → run' ≡ run ++ e ∷ [] → now ≡ has_synced later (reverse run')
    → now ≡ false → opens_by s (reverse run) e ≡ false
shut_after s later run run' e now same longer after f =
    still_unopened s run e
    ((λ i. has_synced (sym same i) (reverse (sym longer i))) ∙ sym after ∙ f)
