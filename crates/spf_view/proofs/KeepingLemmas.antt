-- A session after a history, and after one more event.
use Rattle.std.proofs.Common.{◌≡◌, Bool, true, false, not, cond, ◌||◌, List, [], ◌∷◌, ◌++◌, reverse}
use Rattle.std.proofs.Common.{Option, None, Some, refl, sym, ap, ◌∙◌, subst}
use Rattle.std.specs.Prelude.{ℤ, is_some}
use Rattle.std.specs.Option.{option_or, option_to_list, ForSome}
use Rattle.std.specs.Cmp.{IsEquivalence}
use Rattle.std.proofs.lemmas.List.{append-nil, reverse-reverse, reverse-append}
use Rattle.spf_view.specs.Views.{Subject, View, Waiting, Withdrawn, Permitted, has_synced}
use Rattle.spf_view.specs.Views.{last_moment, outcome, outcomes, outcome_with, view_of, revision_of}
use Rattle.spf_view.specs.Views.{same_view}
use Rattle.spf_view.specs.Steps.{Step, Accept, Deny, step_with, steps_of, replay_view}
use Rattle.spf_view.specs.Steps.{BeginsWithAccept}
use Rattle.spf_view.specs.Standing.{reason_of, held_in, StandsFor, Kept, StandsIf, KeptAfter}
use Rattle.spf_view.specs.Standing.{IsShowing, is_change, shown_by, raised}
use Rattle.spf_view.specs.Keeping.{kept_with, kept_with_any, ShowsIf, IsAt, SeenAs}
use Rattle.spf_view.proofs.Known.{Yes, No, known}
use Rattle.spf_view.proofs.EventLemmas.{kept_before, kept_more, made_first}
use Rattle.spf_view.proofs.HeldLemmas.{held_view}
use Rattle.spf_view.proofs.RevisionLemmas.{reason_view}
use Rattle.spf_view.proofs.StandsLemmas.{stands_opening, stands_changed, stands_unchanged}
use Rattle.spf_view.proofs.ViewLemmas.{link_view, link_revision}

pub at_start : {E M L D : Type 0} (s : Subject E M L D) → IsAt s [] None None
at_start s = record { stands = kept_before s; shows = tt }

pub synced_at : {E M L D : Type 0} (s : Subject E M L D) (past : List E) (now : Option ℤ)
    (kept : Option (Kept M D)) → IsAt s past now kept → has_synced s past ≡ is_some kept
synced_at s past now kept h = ap (has_synced s) (sym (reverse-reverse past)) ∙ h.stands.synced

pub moment_at : {E M L D : Type 0} (s : Subject E M L D) (past : List E) (now : Option ℤ)
    (kept : Option (Kept M D)) → IsAt s past now kept → last_moment s past ≡ now
moment_at s past now kept h = ap (last_moment s) (sym (reverse-reverse past)) ∙ h.stands.moment

pub outcome_at : {E M L D : Type 0} (s : Subject E M L D) (past : List E) (now : Option ℤ)
    (kept : Option (Kept M D)) (e : E) → IsAt s past now kept
    → outcome s e past ≡ outcome_with s (is_some kept) now e
outcome_at s past now kept e h =
    λ i. outcome_with s (synced_at s past now kept h i) (moment_at s past now kept h i) e

-- ---- one more event

opened : {M L D : Type 0} (E : M → M → Bool) (t : Step M L D) → BeginsWithAccept (t ∷ [])
    → StandsIf E (t ∷ []) (Some (record { revision = 0; view = shown_by t }))
opened E (Accept m l) first = stands_opening E m l
opened E (Deny d) first = absurd first

moved : {M L D : Type 0} (E : M → M → Bool) (o : IsEquivalence E) (steps : List (Step M L D))
    (k : Kept M D) (t : Step M L D) → IsShowing k.view → StandsIf E steps (Some k)
    → StandsIf E (steps ++ t ∷ []) (kept_with E (Some k) t)
moved {M} {L} {D} E o steps k t showing stands =
    elim (known (is_change E k.view t)) [
      | Yes y ↦ subst
          (λ b. StandsIf E (steps ++ t ∷ [])
          (Some (cond b (record { revision = raised k.revision; view = shown_by t }) k))) (sym y)
          (stands_changed E o steps k t showing stands y)
      | No n ↦ subst
          (λ b. StandsIf E (steps ++ t ∷ [])
          (Some (cond b (record { revision = raised k.revision; view = shown_by t }) k))) (sym n)
          (stands_unchanged E o steps k t showing stands n)
    ]

step_kept : {M L D : Type 0} (E : M → M → Bool) (o : IsEquivalence E) (steps : List (Step M L D))
    (kept : Option (Kept M D)) (step : Option (Step M L D)) → ShowsIf kept
    → (is_some kept ≡ false → ForSome step (λ t. BeginsWithAccept (t ∷ []))) → StandsIf E steps kept
    → StandsIf E (steps ++ option_to_list step) (kept_with_any E kept step)
step_kept {M} {L} {D} E o steps kept None shows first stands =
    subst (λ (l : List (Step M L D)). StandsIf E l kept) (sym (append-nil steps)) stands
step_kept {M} {L} {D} E o steps None (Some t) shows first stands =
    subst (λ (l : List (Step M L D)).
    StandsIf E (l ++ t ∷ []) (Some (record { revision = 0; view = shown_by t }))) (sym stands)
    (opened E t (first refl t refl))
step_kept E o steps (Some k) (Some t) shows first stands = moved E o steps k t shows stands

shown_there : {M L D : Type 0} (t : Step M L D) → IsShowing (shown_by t)
shown_there (Accept m l) = tt
shown_there (Deny d) = tt

-- something is kept after a step, and as before after none
kept_any : {M L D : Type 0} (E : M → M → Bool) (kept : Option (Kept M D))
    (step : Option (Step M L D))
    → (is_some step || is_some kept) ≡ is_some (kept_with_any E kept step)
kept_any E None None = refl
kept_any E (Some k) None = refl
kept_any E None (Some t) = refl
kept_any E (Some k) (Some t) = refl

shows_more : {M L D : Type 0} (E : M → M → Bool) (kept : Option (Kept M D))
    (step : Option (Step M L D)) → ShowsIf kept → ShowsIf (kept_with_any E kept step)
shows_more E kept None shows = shows
shows_more E None (Some t) shows = shown_there t
shows_more {M} {L} {D} E (Some k) (Some t) shows = cases (is_change E k.view t)
  where
    cases : (b : Bool)
        → ShowsIf (Some (cond b (record { revision = raised k.revision; view = shown_by t }) k))
    cases true = shown_there t
    cases false = shows

first_step : {E M L D : Type 0} (s : Subject E M L D) (now : Option ℤ) (e : E) (b : Bool)
    → b ≡ false → ForSome (step_with s b now e) (λ t. BeginsWithAccept (t ∷ []))
first_step s now e b none =
    subst (λ c. ForSome (step_with s c now e) (λ t. BeginsWithAccept (t ∷ []))) (sym none)
    (made_first s now e)

pub at_more : {E M L D : Type 0} (s : Subject E M L D) (o : IsEquivalence s.is_same) (past : List E)
    (e : E) (now : Option ℤ) (kept : Option (Kept M D)) → IsAt s past now kept
    → IsAt s (e ∷ past) (option_or (s.moment e) now)
    (kept_with_any s.is_same kept (step_with s (is_some kept) now e))
at_more {E} {M} {L} {D} s o past e now kept h =
    let step = step_with s (is_some kept) now e in
    let new = kept_with_any s.is_same kept step in
    let more : reverse past ++ e ∷ [] ≡ reverse (e ∷ past) = sym (reverse-append (e ∷ []) past) in
    record {
      stands = subst (λ events. KeptAfter s events (option_or (s.moment e) now) new) more
          (kept_more s (reverse past) e now kept new
          (λ steps stands.
          step_kept s.is_same o steps kept step h.shows (first_step s now e (is_some kept)) stands)
          (kept_any s.is_same kept step) h.stands);
      shows = shows_more s.is_same kept step h.shows;
    }

-- ---- what is kept is what the events make visible

pub revision_at : {E M L D : Type 0} (s : Subject E M L D) (past : List E) (now : Option ℤ)
    (k : Kept M D) → IsAt s past now (Some k) → k.revision ≡ revision_of s.is_same (outcomes s past)
revision_at s past now k h =
    h.stands.stands.revision_is ∙ link_revision s (reverse past)
    ∙ ap (λ p. revision_of s.is_same (outcomes s p)) (reverse-reverse past)

pub view_at : {E M L D : Type 0} (s : Subject E M L D) (o : IsEquivalence s.is_same) (past : List E)
    (now : Option ℤ) (k : Kept M D) → IsAt s past now (Some k)
    → SeenAs s.is_same k.view (view_of (outcomes s past))
view_at {E} {M} {L} {D} s o past now k h = cases k.view h.shows h.stands.stands
  where
    seen : replay_view (steps_of s (reverse past)) ≡ view_of (outcomes s past)
    seen = link_view s (reverse past) ∙ ap (λ p. view_of (outcomes s p)) (reverse-reverse past)

    cases : (v : View M D) → IsShowing v
        → StandsFor s.is_same (steps_of s (reverse past)) k.revision (held_in v) (reason_of v)
        → SeenAs s.is_same v (view_of (outcomes s past))
    cases Waiting w st = absurd w
    cases (Withdrawn d) w st =
        sym seen ∙ reason_view (replay_view (steps_of s (reverse past))) d st.reason_is
    cases (Permitted m) w st = let held =
        held_view s.is_same o m (steps_of s (reverse past)) (sym st.held_is) in
        (held.shown, sym seen ∙ held.view_is, held.same)

not_not : (b : Bool) → b ≡ not (not b)
not_not true = refl
not_not false = refl

-- something else is visible exactly where the step makes a change
pub update_seen : {M L D : Type 0} (E : M → M → Bool) (o : IsEquivalence E) (v w : View M D) (m : M)
    (l : L) → SeenAs E v w → same_view E w (Permitted m) ≡ not (is_change {L = L} E v (Accept m l))
update_seen E o Waiting w m l h = absurd h
update_seen E o (Withdrawn d) w m l h = ap (λ v. same_view E v (Permitted m)) h
update_seen E o (Permitted k) w m l h =
    ap (λ v. same_view E v (Permitted m)) h.1 ∙ sym (o.congr k h.0 m h.2) ∙ not_not (E k m)

-- where nothing is kept, a view is waiting
pub waiting_at : {E M L D : Type 0} (s : Subject E M L D) (past : List E) (now : Option ℤ)
    → IsAt s past now None → view_of (outcomes s past) ≡ Waiting
waiting_at s past now h =
    ap (λ p. view_of (outcomes s p)) (sym (reverse-reverse past)) ∙ sym (link_view s (reverse past))
    ∙ ap replay_view h.stands.stands
