-- What an event does to the view and the revision, by what becomes of it.
use Rattle.std.proofs.Common.{◌≡◌, Bool, true, false, cond, ◌||◌, List, [], ◌∷◌, ◌++◌, reverse}
use Rattle.std.proofs.Common.{Option, None, Some, refl, sym, ap, ◌∙◌, subst}
use Rattle.std.specs.Prelude.{is_some}
use Rattle.std.specs.Option.{option_or, option_map_or, option_to_list}
use Rattle.std.specs.Cmp.{IsEquivalence}
use Rattle.spf_view.specs.Views.{Subject, Accepted, Denied, View, Waiting, Withdrawn, Permitted}
use Rattle.spf_view.specs.Views.{keep_if, brings, has_synced, outcome, outcomes, last_accepted}
use Rattle.spf_view.specs.Views.{first_denial, view_from, view_of, same_view, view_after}
use Rattle.spf_view.specs.Views.{revision_after, outcome_after, denied_or_passed, last_moment}
use Rattle.spf_view.specs.Steps.{Accept, Deny, step_in, steps_of, replay_revision}
use Rattle.spf_view.specs.Standing.{raised}
use Rattle.spf_view.proofs.ViewLemmas.{link_view, link_revision, steps_more, outcomes_more}
use Rattle.spf_view.proofs.RevisionLemmas.{revision_more, denied_view, denied_again, shown_there}

-- ---- the same event again

-- where something is the last accepted one, something was accepted
synced_back : {E M L D : Type 0} (s : Subject E M L D) (past : List E)
    → is_some (last_accepted (outcomes s past)) ≡ true → has_synced s past ≡ true
synced_back s [] h = cc
synced_back {E} {M} {L} {D} s (e ∷ past) h =
    cases (λ i. synced_back s past i) (brings s (has_synced s past) (last_moment s past) e)
    (s.denial e) (has_synced s past) h
  where
    cases : (is_some (last_accepted (outcomes s past)) ≡ true → has_synced s past ≡ true)
        → (o : Option M) (q : Option D) (b : Bool)
        → is_some (last_accepted
        (option_map_or Accepted o (denied_or_passed b q) ∷ outcomes s past)) ≡ true
        → (is_some o || has_synced s past) ≡ true
    cases ih (Some m) q b i = refl
    cases ih None None b i = ih i
    cases ih None (Some d) true i = ih i
    cases ih None (Some d) false i = ih i

view_from_synced : {M D : Type 0} (a : Option M) (b : Option D) (d : D)
    → view_from a b ≡ Withdrawn d → is_some a ≡ true
view_from_synced None b d e = cc
view_from_synced (Some m) b d e = refl

-- what is accepted breaks no rule and passes no limit
offered_from : {E M L D : Type 0} (s : Subject E M L D) (e : E) (past : List E) (m : M)
    → outcome s e past ≡ Accepted m → keep_if (s.is_within s.limits) (s.parsed e) ≡ Some m
offered_from {E} {M} {L} {D} s e past m h =
    cases (keep_if (s.is_within s.limits) (s.parsed e)) (s.denial e) (has_synced s past) h
  where
    none : (q : Option D) (b : Bool) → denied_or_passed {M = M} b q ≡ Accepted m → ⊥
    none None b i = cc
    none (Some d) true i = cc
    none (Some d) false i = cc

    test : (x : M) (q : Option D) (b t : Bool)
        → option_map_or Accepted (cond t (Some x) None) (denied_or_passed b q) ≡ Accepted m
        → Some x ≡ Some m
    test x q b true i = let j : x ≡ m = cc in ap Some j
    test x q b false i = absurd (none q b i)

    cases : (o : Option M) (q : Option D) (b : Bool)
        → option_map_or Accepted (keep_if (λ n. b || s.may_sync n (last_moment s past)) o)
        (denied_or_passed b q) ≡ Accepted m → o ≡ Some m
    cases None q b i = absurd (none q b i)
    cases (Some x) q b i = test x q b (b || s.may_sync x (last_moment s past)) i

-- what was accepted is accepted again after a withdrawal
pub accepted_again : {E M L D : Type 0} (s : Subject E M L D) (before events : List E) (e : E)
    (m : M) (d : D) → outcome_after s before e ≡ Accepted m → view_after s events ≡ Withdrawn d
    → outcome_after s events e ≡ Accepted m
accepted_again {E} {M} {L} {D} s before events e m d h w =
    let o = offered_from s e (reverse before) m h in
    let b = synced_back s (reverse events)
    (view_from_synced (last_accepted (outcomes s (reverse events)))
    (first_denial (outcomes s (reverse events))) d w) in
    ap (λ c. option_map_or Accepted
    (keep_if (λ n. c || s.may_sync n (last_moment s (reverse events)))
    (keep_if (s.is_within s.limits) (s.parsed e))) (denied_or_passed c (s.denial e))) b
    ∙ ap (λ k. option_map_or Accepted (keep_if (λ n. true) k) (denied_or_passed true (s.denial e)))
    o

-- what is accepted is within the limits
pub accepted_within : {E M L D : Type 0} (s : Subject E M L D) (e : E) (past : List E) (m : M)
    → outcome s e past ≡ Accepted m → s.is_within s.limits m ≡ true
accepted_within {E} {M} {L} {D} s e past m h = cases (s.parsed e) (offered_from s e past m h)
  where
    test : (x : M) (b : Bool) → s.is_within s.limits x ≡ b → cond b (Some x) None ≡ Some m
        → s.is_within s.limits m ≡ true
    test x true i f = let g : x ≡ m = cc in subst (λ y. s.is_within s.limits y ≡ true) g i
    test x false i f = cc

    cases : (o : Option M) → keep_if (s.is_within s.limits) o ≡ Some m
        → s.is_within s.limits m ≡ true
    cases None f = cc
    cases (Some x) f = test x (s.is_within s.limits x) refl f

-- ---- an accepted event

pub view_accepted : {E M L D : Type 0} (s : Subject E M L D) (events : List E) (e : E) (m : M)
    → outcome_after s events e ≡ Accepted m → view_after s (events ++ e ∷ []) ≡ Permitted m
view_accepted s events e m h =
    ap view_of (outcomes_more s events e) ∙ ap (λ o. view_of (o ∷ outcomes s (reverse events))) h

-- the steps with that of an accepted event
steps_accepted : {E M L D : Type 0} (s : Subject E M L D) (events : List E) (e : E) (m : M)
    → outcome_after s events e ≡ Accepted m
    → steps_of s (events ++ e ∷ []) ≡ steps_of s events ++ Accept m s.limits ∷ []
steps_accepted s events e m h =
    steps_more s events e ∙ ap (λ o. steps_of s events ++ option_to_list (step_in s.limits o)) h

pub revision_again : {E M L D : Type 0} (s : Subject E M L D) (events : List E) (e : E) (m : M)
    (d : D) → view_after s events ≡ Withdrawn d → outcome_after s events e ≡ Accepted m
    → revision_after s (events ++ e ∷ []) ≡ raised (revision_after s events)
revision_again s events e m d w h =
    let v = link_view s events ∙ w in
    sym (link_revision s (events ++ e ∷ []))
    ∙ ap (replay_revision s.is_same) (steps_accepted s events e m h)
    ∙ revision_more s.is_same (Accept m s.limits) (steps_of s events) false
    (shown_there (steps_of s events) (Withdrawn d) v (λ n. cc))
    (ap (λ x. same_view s.is_same x (Permitted m)) v)
    ∙ ap raised (link_revision s events)

-- an accepted update while permitted
pub revision_accepted : {E M L D : Type 0} (s : Subject E M L D) (events : List E) (e : E) (m n : M)
    → view_after s events ≡ Permitted m → outcome_after s events e ≡ Accepted n
    → revision_after s (events ++ e ∷ [])
    ≡ cond (s.is_same m n) (revision_after s events) (raised (revision_after s events))
revision_accepted s events e m n w h =
    let v = link_view s events ∙ w in
    sym (link_revision s (events ++ e ∷ []))
    ∙ ap (replay_revision s.is_same) (steps_accepted s events e n h)
    ∙ revision_more s.is_same (Accept n s.limits) (steps_of s events) (s.is_same m n)
    (shown_there (steps_of s events) (Permitted m) v (λ n. cc))
    (ap (λ x. same_view s.is_same x (Permitted n)) v)
    ∙ ap (λ r. cond (s.is_same m n) r (raised r)) (link_revision s events)

-- ---- a denial

steps_denied : {E M L D : Type 0} (s : Subject E M L D) (events : List E) (e : E) (d : D)
    → outcome_after s events e ≡ Denied d
    → steps_of s (events ++ e ∷ []) ≡ steps_of s events ++ Deny d ∷ []
steps_denied s events e d h =
    steps_more s events e ∙ ap (λ o. steps_of s events ++ option_to_list (step_in s.limits o)) h

pub view_denied : {E M L D : Type 0} (s : Subject E M L D) (events : List E) (e : E) (m : M) (d : D)
    → view_after s events ≡ Permitted m → outcome_after s events e ≡ Denied d
    → view_after s (events ++ e ∷ []) ≡ Withdrawn d
view_denied {E} {M} {L} {D} s events e m d w h =
    ap view_of (outcomes_more s events e) ∙ ap (λ o. view_of (o ∷ outcomes s (reverse events))) h
    ∙ cases (last_accepted (outcomes s (reverse events)))
    (first_denial (outcomes s (reverse events))) w
  where
    cases : (a : Option M) (b : Option D) → view_from a b ≡ Permitted m
        → view_from a (option_or b (Some d)) ≡ Withdrawn d
    cases None b f = cc
    cases (Some a) None f = refl
    cases (Some a) (Some b) f = cc

pub revision_denied : {E M L D : Type 0} (s : Subject E M L D) (events : List E) (e : E) (m : M)
    (d : D) → view_after s events ≡ Permitted m → outcome_after s events e ≡ Denied d
    → revision_after s (events ++ e ∷ []) ≡ raised (revision_after s events)
revision_denied s events e m d w h =
    let v = link_view s events ∙ w in
    let now = denied_view (reverse (steps_of s events)) m d v in
    sym (link_revision s (events ++ e ∷ []))
    ∙ ap (replay_revision s.is_same) (steps_denied s events e d h)
    ∙ revision_more s.is_same (Deny d) (steps_of s events) false
    (shown_there (steps_of s events) (Permitted m) v (λ n. cc))
    (λ i. same_view s.is_same (v i) (now i))
    ∙ ap raised (link_revision s events)

pub view_denied_again : {E M L D : Type 0} (s : Subject E M L D) (events : List E) (e : E)
    (d d' : D) → view_after s events ≡ Withdrawn d → outcome_after s events e ≡ Denied d'
    → view_after s (events ++ e ∷ []) ≡ Withdrawn d
view_denied_again {E} {M} {L} {D} s events e d d' w h =
    ap view_of (outcomes_more s events e) ∙ ap (λ o. view_of (o ∷ outcomes s (reverse events))) h
    ∙ cases (last_accepted (outcomes s (reverse events)))
    (first_denial (outcomes s (reverse events))) w
  where
    cases : (a : Option M) (b : Option D) → view_from a b ≡ Withdrawn d
        → view_from a (option_or b (Some d')) ≡ Withdrawn d
    cases None b f = cc
    cases (Some a) None f = cc
    cases (Some a) (Some b) f = f

pub revision_denied_again : {E M L D : Type 0} (s : Subject E M L D) (events : List E) (e : E)
    (d d' : D) → view_after s events ≡ Withdrawn d → outcome_after s events e ≡ Denied d'
    → revision_after s (events ++ e ∷ []) ≡ revision_after s events
revision_denied_again s events e d d' w h =
    let v = link_view s events ∙ w in
    let now = denied_again (reverse (steps_of s events)) d d' v in
    sym (link_revision s (events ++ e ∷ []))
    ∙ ap (replay_revision s.is_same) (steps_denied s events e d' h)
    ∙ revision_more s.is_same (Deny d') (steps_of s events) true
    (shown_there (steps_of s events) (Withdrawn d) v (λ n. cc))
    (λ i. same_view s.is_same (v i) (now i))
    ∙ link_revision s events

-- ---- views that are the same

pub view_refl : {M D : Type 0} (E : M → M → Bool) → IsEquivalence E → (v : View M D)
    → (v ≡ Waiting → ⊥) → same_view E v v ≡ true
view_refl E o Waiting n = absurd (n refl)
view_refl E o (Withdrawn d) n = refl
view_refl E o (Permitted m) n = o.refl m

pub view_symm : {M D : Type 0} (E : M → M → Bool) → IsEquivalence E → (v w : View M D)
    → same_view E v w ≡ same_view E w v
view_symm E o Waiting Waiting = refl
view_symm E o Waiting (Withdrawn d) = refl
view_symm E o Waiting (Permitted m) = refl
view_symm E o (Withdrawn d) Waiting = refl
view_symm E o (Withdrawn d) (Withdrawn d') = refl
view_symm E o (Withdrawn d) (Permitted m) = refl
view_symm E o (Permitted m) Waiting = refl
view_symm E o (Permitted m) (Withdrawn d) = refl
view_symm E o (Permitted m) (Permitted n) = o.symm m n

pub view_trans : {M D : Type 0} (E : M → M → Bool) → IsEquivalence E → (u v w : View M D)
    → same_view E u v ≡ true → same_view E v w ≡ true → same_view E u w ≡ true
view_trans E o (Withdrawn d) (Withdrawn d') (Withdrawn d'') a b = refl
view_trans E o (Permitted l) (Permitted m) (Permitted n) a b = o.congr l m n a ∙ b
view_trans E o (Withdrawn d) (Withdrawn d') (Permitted m) a b = cc
view_trans E o (Withdrawn d) (Withdrawn d') Waiting a b = cc
view_trans E o (Permitted l) (Permitted m) (Withdrawn d) a b = cc
view_trans E o (Permitted l) (Permitted m) Waiting a b = cc
view_trans E o (Withdrawn d) (Permitted m) w a b = cc
view_trans E o (Withdrawn d) Waiting w a b = cc
view_trans E o (Permitted m) (Withdrawn d) w a b = cc
view_trans E o (Permitted m) Waiting w a b = cc
view_trans E o Waiting v w a b = cc
