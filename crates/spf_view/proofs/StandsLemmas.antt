-- What one more step makes of what a list of steps stands for.
use Rattle.std.proofs.Common.{◌≡◌, ℕ, Bool, true, false, cond, List, [], ◌∷◌, ◌++◌, map, reverse}
use Rattle.std.proofs.Common.{Option, None, Some, refl, sym, ap, ◌∙◌, subst}
use Rattle.std.specs.Cmp.{IsEquivalence}
use Rattle.spf_view.specs.Views.{View, Waiting, Withdrawn, Permitted, same_view, view_of}
use Rattle.spf_view.specs.Steps.{Step, Accept, Deny, done, replay_view}
use Rattle.spf_view.specs.Standing.{reason_of, StandsFor, held_in, Kept, Stands, is_change}
use Rattle.spf_view.specs.Standing.{shown_by, IsShowing, raised}
use Rattle.spf_view.proofs.Known.{off, on}
use Rattle.spf_view.proofs.HeldLemmas.{held_next, held_more, held_denied, held_view}
use Rattle.spf_view.proofs.RevisionLemmas.{revision_more, view_more, reason_view, denied_view}
use Rattle.spf_view.proofs.RevisionLemmas.{denied_again}

-- steps that leave the view withdrawn are not empty
withdrawn_some : {M L D : Type 0} (steps : List (Step M L D)) (d : D)
    → Some d ≡ reason_of (replay_view steps) → reverse steps ≡ [] → ⊥
withdrawn_some steps d e none = let was : Some d ≡ None =
    e ∙ ap (λ past. reason_of (view_of (map done past))) none in cc

-- ---- one more step, by the kind of step and of view

pub stands_opening : {M L D : Type 0} (E : M → M → Bool) (m : M) (l : L)
    → StandsFor {D = D} E (Accept m l ∷ []) 0 (Some m) None
stands_opening E m l = record {
  revision_is = refl;
  held_is = refl;
  reason_is = refl;
}

pub stands_accept : {M L D : Type 0} (E : M → M → Bool) (o : IsEquivalence E)
    (steps : List (Step M L D)) (r : ℕ) (h m : M) (l : L) (q : Option D)
    → StandsFor E steps r (Some h) q
    → StandsFor {D = D} E (steps ++ Accept m l ∷ []) (cond (E h m) r (raised r))
    (Some (cond (E h m) h m)) None
stands_accept E o steps r h m l q s =
    let v = held_view E o h steps (sym s.held_is) in
    record {
      revision_is =
          ap (λ n. cond (E h m) n (raised n)) s.revision_is
          ∙ sym (revision_more E (Accept m l) steps (E h m) v.nonempty
          (ap (λ w. same_view E w (Permitted m)) v.view_is ∙ sym (o.congr h v.shown m v.same)));
      held_is = ap (λ w. Some (held_next E w m)) s.held_is ∙ sym (held_more E o m l steps);
      reason_is = ap reason_of (sym (view_more (Accept m l) steps));
    }

-- an accepted step after a withdrawal
pub stands_again : {M L D : Type 0} (E : M → M → Bool) (o : IsEquivalence E)
    (steps : List (Step M L D)) (r : ℕ) (m : M) (l : L) (d : D)
    → StandsFor E steps r None (Some d)
    → StandsFor {D = D} E (steps ++ Accept m l ∷ []) (raised r) (Some m) None
stands_again E o steps r m l d s = record {
  revision_is =
      ap raised s.revision_is
      ∙ sym (revision_more E (Accept m l) steps false (withdrawn_some steps d s.reason_is)
      (ap (λ w. same_view E w (Permitted m)) (reason_view (replay_view steps) d s.reason_is)));
  held_is = ap (λ w. Some (held_next E w m)) s.held_is ∙ sym (held_more E o m l steps);
  reason_is = ap reason_of (sym (view_more (Accept m l) steps));
}

pub stands_deny : {M L D : Type 0} (E : M → M → Bool) (o : IsEquivalence E)
    (steps : List (Step M L D)) (r : ℕ) (h : M) (d : D) (q : Option D)
    → StandsFor E steps r (Some h) q → StandsFor E (steps ++ Deny d ∷ []) (raised r) None (Some d)
stands_deny E o steps r h d q s =
    let v = held_view E o h steps (sym s.held_is) in
    let now = denied_view (reverse steps) v.shown d v.view_is in
    record {
      revision_is =
          ap raised s.revision_is
          ∙ sym (revision_more E (Deny d) steps false v.nonempty
          (λ i. same_view E (v.view_is i) (now i)));
      held_is = sym (held_denied E d steps);
      reason_is = ap reason_of (sym now) ∙ ap reason_of (sym (view_more (Deny d) steps));
    }

pub stands_deny_again : {M L D : Type 0} (E : M → M → Bool) (steps : List (Step M L D)) (r : ℕ)
    (d d' : D)
    → StandsFor E steps r None (Some d) → StandsFor E (steps ++ Deny d' ∷ []) r None (Some d)
stands_deny_again E steps r d d' s =
    let was = reason_view (replay_view steps) d s.reason_is in
    let now = denied_again (reverse steps) d d' was in
    record {
      revision_is =
          s.revision_is
          ∙ sym (revision_more E (Deny d') steps true (withdrawn_some steps d s.reason_is)
          (λ i. same_view E (was i) (now i)));
      held_is = sym (held_denied E d' steps);
      reason_is = ap reason_of (sym now) ∙ ap reason_of (sym (view_more (Deny d') steps));
    }

-- ---- the same by one test

pub stands_changed : {M L D : Type 0} (E : M → M → Bool) (o : IsEquivalence E)
    (steps : List (Step M L D)) (k : Kept M D) (s : Step M L D) → IsShowing k.view
    → Stands E steps k → is_change E k.view s ≡ true
    → Stands E (steps ++ s ∷ []) (record { revision = raised k.revision; view = shown_by s })
stands_changed {M} {L} {D} E o steps k s w h c = cases s k.view w h c
  where
    cases : (s : Step M L D) (v : View M D) → IsShowing v
        → StandsFor E steps k.revision (held_in v) (reason_of v) → is_change E v s ≡ true
        → StandsFor E (steps ++ s ∷ []) (raised k.revision) (held_in (shown_by s))
        (reason_of (shown_by s))
    cases s Waiting w h c = absurd w
    cases (Accept m l) (Withdrawn d) w h c = stands_again E o steps k.revision m l d h
    cases (Deny d') (Withdrawn d) w h c = cc
    cases (Deny d) (Permitted n) w h c = stands_deny E o steps k.revision n d None h
    cases (Accept m l) (Permitted n) w h c =
        let e : E n m ≡ false = off (E n m) c in
        let made = stands_accept E o steps k.revision n m l None h in
        subst (λ b.
        StandsFor E (steps ++ Accept m l ∷ []) (cond b k.revision (raised k.revision))
        (Some (cond b n m)) None) e made

pub stands_unchanged : {M L D : Type 0} (E : M → M → Bool) (o : IsEquivalence E)
    (steps : List (Step M L D)) (k : Kept M D) (s : Step M L D) → IsShowing k.view
    → Stands E steps k → is_change E k.view s ≡ false → Stands E (steps ++ s ∷ []) k
stands_unchanged {M} {L} {D} E o steps k s w h c = cases s k.view w h c
  where
    cases : (s : Step M L D) (v : View M D) → IsShowing v
        → StandsFor E steps k.revision (held_in v) (reason_of v) → is_change E v s ≡ false
        → StandsFor E (steps ++ s ∷ []) k.revision (held_in v) (reason_of v)
    cases s Waiting w h c = absurd w
    cases (Accept m l) (Withdrawn d) w h c = cc
    cases (Deny d') (Withdrawn d) w h c = stands_deny_again E steps k.revision d d' h
    cases (Deny d) (Permitted n) w h c = cc
    cases (Accept m l) (Permitted n) w h c =
        let e : E n m ≡ true = on (E n m) c in
        let made = stands_accept E o steps k.revision n m l None h in
        subst (λ b.
        StandsFor E (steps ++ Accept m l ∷ []) (cond b k.revision (raised k.revision))
        (Some (cond b n m)) None) e made

-- ---- the view beside what is kept

-- what is kept shows the same as the view of the steps
pub stands_view : {M L D : Type 0} (E : M → M → Bool) (o : IsEquivalence E)
    (steps : List (Step M L D)) (k : Kept M D) → IsShowing k.view → Stands E steps k
    → same_view E k.view (replay_view steps) ≡ true
stands_view {M} {L} {D} E o steps k w h = cases k.view w h
  where
    cases : (v : View M D) → IsShowing v → StandsFor E steps k.revision (held_in v) (reason_of v)
        → same_view E v (replay_view steps) ≡ true
    cases Waiting w h = absurd w
    cases (Withdrawn d) w h =
        ap (λ u. same_view E (Withdrawn d) u) (reason_view (replay_view steps) d h.reason_is)
    cases (Permitted m) w h = let v = held_view E o m steps (sym h.held_is) in
        ap (λ u. same_view E (Permitted m) u) v.view_is ∙ v.same
