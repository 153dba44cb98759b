-- One more event of a session, and what it keeps.
use Rattle.std.proofs.Common.{◌≡◌, Bool, true, false, cond, ◌||◌, List, [], ◌∷◌, ◌++◌, reverse}
use Rattle.std.proofs.Common.{Option, None, Some, refl, sym, ap, ◌∙◌, subst}
use Rattle.std.specs.Prelude.{ℤ, is_some}
use Rattle.std.specs.Option.{option_or, option_map_or, option_to_list, ForSome}
use Rattle.std.specs.List.{AllByRecursion}
use Rattle.std.proofs.lemmas.List.{append-nil}
use Rattle.spf_view.specs.Views.{Subject, Accepted, keep_if, last_moment, brings, has_synced}
use Rattle.spf_view.specs.Views.{denied_or_passed, outcome, outcomes, outcome_with, outcome_after}
use Rattle.spf_view.specs.Steps.{Step, Accept, Deny, step_in, step_with, steps_back, steps_of}
use Rattle.spf_view.specs.Steps.{IsFit, BeginsWithAccept, IsLegal}
use Rattle.spf_view.specs.Standing.{Kept, StandsIf, KeptAfter}
use Rattle.spf_view.proofs.ViewLemmas.{last_first, steps_back_more, steps_more}

pub synced_more : {E M L D : Type 0} (s : Subject E M L D) (events : List E) (e : E)
    → has_synced s (reverse (events ++ e ∷ []))
    ≡ (is_some (brings s (has_synced s (reverse events)) (last_moment s (reverse events)) e)
    || has_synced s (reverse events))
synced_more s events e = ap (has_synced s) (last_first events e)

pub moment_more : {E M L D : Type 0} (s : Subject E M L D) (events : List E) (e : E)
    → last_moment s (reverse (events ++ e ∷ []))
    ≡ option_or (s.moment e) (last_moment s (reverse events))
moment_more s events e = ap (last_moment s) (last_first events e)

-- ---- where a session stands

pub kept_before : {E M L D : Type 0} (s : Subject E M L D) → KeptAfter s [] None None
kept_before s = record { synced = refl; moment = refl; stands = refl }

-- whether something is brought, by the step that it makes
brought : {M L D : Type 0} (o : Option M) (b : Bool) (q : Option D) (l : L)
    → (is_some o || b)
    ≡ (is_some (step_in l (option_map_or Accepted o (denied_or_passed b q))) || b)
brought (Some m) b q l = refl
brought None b None l = refl
brought None true (Some d) l = refl
brought None false (Some d) l = refl

-- What is kept after one more event, where what is kept
-- stands for the steps with the one that the event makes.
pub kept_more : {E M L D : Type 0} (s : Subject E M L D) (events : List E) (e : E) (now : Option ℤ)
    (k new : Option (Kept M D))
    → ((steps : List (Step M L D)) → StandsIf s.is_same steps k
    → StandsIf s.is_same (steps ++ option_to_list (step_with s (is_some k) now e)) new)
    → (is_some (step_with s (is_some k) now e) || is_some k) ≡ is_some new
    → KeptAfter s events now k → KeptAfter s (events ++ e ∷ []) (option_or (s.moment e) now) new
kept_more {E} {M} {L} {D} s events e now k new f any h =
    let went = f (steps_of s events) h.stands in
    let same : outcome_after s events e ≡ outcome_with s (is_some k) now e =
    λ i. outcome_with s (h.synced i) (h.moment i) e in
    let synced : has_synced s (reverse (events ++ e ∷ []))
    ≡ (is_some (brings s (is_some k) now e) || is_some k) =
    synced_more s events e ∙ (λ i. is_some (brings s (h.synced i) (h.moment i) e) || h.synced i) in
    record {
      synced = synced ∙ brought (brings s (is_some k) now e) (is_some k) (s.denial e) s.limits
          ∙ any;
      moment = moment_more s events e ∙ ap (option_or (s.moment e)) h.moment;
      stands = subst (λ (steps : List (Step M L D)). StandsIf s.is_same steps new)
          (sym (steps_more s events e
          ∙ ap (λ o. steps_of s events ++ option_to_list (step_in s.limits o)) same)) went;
    }

-- material that is brought keeps the limits
kept_fits : {M : Type 0} (test other : M → Bool) (o : Option M) (m : M)
    → keep_if other (keep_if test o) ≡ Some m → test m ≡ true
kept_fits test other None m h = cc
kept_fits {M} test other (Some x) m h = first (test x) refl h
  where
    second : test x ≡ true → (t : Bool) → cond t (Some x) None ≡ Some m → test m ≡ true
    second w true i = let g : x ≡ m = cc in subst (λ y. test y ≡ true) g w
    second w false i = cc

    first : (b : Bool) → test x ≡ b → keep_if other (cond b (Some x) None) ≡ Some m → test m ≡ true
    first true w i = second w (other x) i
    first false w i = cc

-- ---- the steps of a run are legal

all_more : {X : Type 0} (P : X → Type 0) (xs : List X) (x : X) → AllByRecursion P xs → P x
    → AllByRecursion P (xs ++ x ∷ [])
all_more P [] x a p = (p, a)
all_more P (y ∷ ys) x a p = (a.0, all_more P ys x a.1 p)

begins_more : {M L D : Type 0} (steps : List (Step M L D)) (s : Step M L D) → BeginsWithAccept steps
    → BeginsWithAccept (steps ++ s ∷ [])
begins_more [] s h = absurd h
begins_more (Accept m l ∷ later) s h = tt
begins_more (Deny d ∷ later) s h = absurd h

legal_more : {M L D : Type 0} (fits : L → M → Bool) (steps : List (Step M L D)) (s : Step M L D)
    → IsLegal fits steps → IsFit fits s → IsLegal fits (steps ++ s ∷ [])
legal_more fits steps s h f =
    record { begins = begins_more steps s h.begins; each = all_more (IsFit fits) steps s h.each f }

-- there is no step before something is accepted, and from there on the steps are legal
LegalFrom : {M L D : Type 0} → (L → M → Bool) → Bool → List (Step M L D) → Type 0
LegalFrom fits false steps = steps ≡ []
LegalFrom fits true steps = IsLegal fits steps

legal_step : {M L D : Type 0} (fits : L → M → Bool) (l : L) (o : Option M) (b : Bool) (q : Option D)
    (steps : List (Step M L D)) → ((m : M) → o ≡ Some m → fits l m ≡ true) → LegalFrom fits b steps
    → LegalFrom fits (is_some o || b)
    (steps ++ option_to_list (step_in l (option_map_or Accepted o (denied_or_passed b q))))
unfolding LegalFrom
legal_step {M} {L} {D} fits l (Some m) false q steps f h =
    subst (λ (ss : List (Step M L D)). IsLegal fits (ss ++ Accept m l ∷ [])) (sym h)
    (record { begins = tt; each = (f m refl, tt) })
legal_step fits l (Some m) true q steps f h = legal_more fits steps (Accept m l) h (f m refl)
legal_step fits l None true (Some d) steps f h = legal_more fits steps (Deny d) h tt
legal_step {M} {L} {D} fits l None true None steps f h =
    subst (λ (ss : List (Step M L D)). IsLegal fits ss) (sym (append-nil steps)) h
legal_step fits l None false (Some d) steps f h = append-nil steps ∙ h
legal_step fits l None false None steps f h = append-nil steps ∙ h

legal_past : {E M L D : Type 0} (s : Subject E M L D) (past : List E)
    → LegalFrom s.is_within (has_synced s past) (reverse (steps_back s.limits (outcomes s past)))
unfolding LegalFrom
legal_past s [] = refl
legal_past {E} {M} {L} {D} s (e ∷ past) =
    let now = last_moment s past in
    let synced = has_synced s past in
    let fit = λ (m : M) (i : brings s synced now e ≡ Some m).
    kept_fits (s.is_within s.limits) (λ n. synced || s.may_sync n now) (s.parsed e) m i in
    subst (λ (ss : List (Step M L D)). LegalFrom s.is_within (has_synced s (e ∷ past)) ss)
    (sym (steps_back_more s.limits (outcome s e past) (outcomes s past)))
    (legal_step s.is_within s.limits (brings s synced now e) synced (s.denial e)
    (reverse (steps_back s.limits (outcomes s past))) fit (legal_past s past))

pub steps_legal : {E M L D : Type 0} (s : Subject E M L D) (events : List E)
    → (steps_of s events ≡ [] → ⊥) → IsLegal s.is_within (steps_of s events)
unfolding LegalFrom
steps_legal {E} {M} {L} {D} s events some =
    cases (has_synced s (reverse events)) (legal_past s (reverse events))
  where
    cases : (b : Bool) → LegalFrom s.is_within b (steps_of s events)
        → IsLegal s.is_within (steps_of s events)
    cases false h = absurd (some h)
    cases true h = h

-- ---- the first step

first_accepts : {M L D : Type 0} (l : L) (o : Option M) (q : Option D) (t : Step M L D)
    → step_in l (option_map_or Accepted o (denied_or_passed false q)) ≡ Some t
    → BeginsWithAccept (t ∷ [])
first_accepts {M} {L} {D} l (Some m) q t h = let e : Accept m l ≡ t = cc in
    subst (λ (u : Step M L D). BeginsWithAccept (u ∷ [])) e tt
first_accepts l None None t h = cc
first_accepts l None (Some d) t h = cc

-- the first one accepts
pub made_first : {E M L D : Type 0} (s : Subject E M L D) (now : Option ℤ) (e : E)
    → ForSome (step_with s false now e) (λ t. BeginsWithAccept (t ∷ []))
made_first s now e = λ t h. first_accepts s.limits (brings s false now e) (s.denial e) t h
