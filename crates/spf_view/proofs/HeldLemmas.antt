-- The held material: what one more step makes of it, and the view beside it.
use Rattle.std.proofs.Common.{◌≡◌, Bool, true, false, cond, ◌&&◌, List, [], ◌∷◌, ◌++◌, map, reverse}
use Rattle.std.proofs.Common.{Option, None, Some, refl, sym, ap, ◌∙◌, subst}
use Rattle.std.specs.Cmp.{IsEquivalence}
use Rattle.std.proofs.lemmas.List.{reverse-append, reverse-reverse}
use Rattle.spf_view.specs.Views.{Permitted, view_of}
use Rattle.spf_view.specs.Steps.{Step, Accept, Deny, done, lasts, replay_held}
use Rattle.spf_view.proofs.Known.{Known, Yes, No, known, both_true, and_none, and_true, and_assoc}

-- ---- what lasts over one more step

lasts_more : {M L D : Type 0} (E : M → M → Bool) (m n : M) (l : L) (later : List (Step M L D))
    → lasts E m (later ++ Accept n l ∷ []) ≡ (lasts E m later && E m n)
lasts_more E m n l [] = and_true (E m n)
lasts_more E m n l (Accept k l' ∷ later) =
    ap (λ b. E m k && b) (lasts_more E m n l later) ∙ and_assoc (E m k) (lasts E m later) (E m n)
lasts_more E m n l (Deny d ∷ later) = refl

lasts_denied : {M L D : Type 0} (E : M → M → Bool) (m : M) (d : D) (later : List (Step M L D))
    → lasts E m (later ++ Deny d ∷ []) ≡ false
lasts_denied E m d [] = refl
lasts_denied E m d (Accept k l ∷ later) =
    ap (λ b. E m k && b) (lasts_denied E m d later) ∙ and_none (E m k)
lasts_denied E m d (Deny d' ∷ later) = refl

-- what is held among later steps is the same as what lasts over them
held_same : {M L D : Type 0} (E : M → M → Bool) (m h : M) (later : List (Step M L D))
    → lasts E m later ≡ true → replay_held E later ≡ Some h → E m h ≡ true
held_same E m h [] a e = cc
held_same {M} {L} {D} E m h (Accept k l ∷ later) a e =
    cases (λ a' e'. held_same E m h later a' e') (known (lasts E k later))
    (both_true (E m k) (lasts E m later) a)
  where
    cases : (lasts E m later ≡ true → replay_held E later ≡ Some h → E m h ≡ true)
        → Known (lasts E k later) → (E m k ≡ true) × (lasts E m later ≡ true) → E m h ≡ true
    cases ih (Yes y) p = let f : Some k ≡ Some h =
        sym (ap (λ b. cond b (Some k) (replay_held E later)) y) ∙ e in let g : k ≡ h = cc in
        subst (λ x. E m x ≡ true) g p.0
    cases ih (No n) p = ih p.1 (sym (ap (λ b. cond b (Some k) (replay_held E later)) n) ∙ e)
held_same E m h (Deny d ∷ later) a e = cc

-- ---- what is held after one more step

-- the held material stays where the new one is the same
abbrev pub held_next : {M : Type 0} → (M → M → Bool) → Option M → M → M
held_next E None m = m
held_next E (Some h) m = cond (E h m) h m

pub held_more : {M L D : Type 0} (E : M → M → Bool) (o : IsEquivalence E) (m : M) (l : L)
    (steps : List (Step M L D))
    → replay_held E (steps ++ Accept m l ∷ []) ≡ Some (held_next E (replay_held E steps) m)
held_more E o m l [] = refl
held_more {M} {L} {D} E o m l (Deny d ∷ later) = held_more E o m l later
held_more {M} {L} {D} E o m l (Accept k l' ∷ later) =
    ap (λ b. cond b (Some k) (replay_held E (later ++ Accept m l ∷ []))) (lasts_more E k m l later)
    ∙ ap (λ r. cond (lasts E k later && E k m) (Some k) r) (held_more E o m l later)
    ∙ cases (known (lasts E k later)) (known (E k m)) (replay_held E later) refl
  where
    not_same : (h : M) → E k h ≡ true → E k m ≡ false → E h m ≡ false
    not_same h e f = sym (o.congr k h m e) ∙ f

    kept : (h : M) → E h m ≡ false → Some (cond (E h m) h m) ≡ Some m
    kept h f = ap (λ b. Some (cond b h m)) f

    cases : Known (lasts E k later) → Known (E k m) → (r : Option M) → replay_held E later ≡ r
        → cond (lasts E k later && E k m) (Some k) (Some (held_next E r m))
        ≡ Some (held_next E (cond (lasts E k later) (Some k) r) m)
    cases (No n) e r is =
        (λ i. cond (n i && E k m) (Some k) (Some (held_next E r m)))
        ∙ ap (λ b. Some (held_next E (cond b (Some k) r) m)) (sym n)
    cases (Yes y) (Yes e) r is =
        (λ i. cond (y i && e i) (Some k) (Some (held_next E r m)))
        ∙ ap (λ b. Some (cond b k m)) (sym e)
        ∙ ap (λ b. Some (held_next E (cond b (Some k) r) m)) (sym y)
    cases (Yes y) (No e) None is =
        (λ i. cond (y i && e i) (Some k) (Some m)) ∙ sym (kept k e)
        ∙ ap (λ b. Some (held_next E (cond b (Some k) None) m)) (sym y)
    cases (Yes y) (No e) (Some h) is =
        (λ i. cond (y i && e i) (Some k) (Some (cond (E h m) h m)))
        ∙ kept h (not_same h (held_same E k h later y is) e)
        ∙ sym (kept k e) ∙ ap (λ b. Some (held_next E (cond b (Some k) (Some h)) m)) (sym y)

pub held_denied : {M L D : Type 0} (E : M → M → Bool) (d : D) (steps : List (Step M L D))
    → replay_held E (steps ++ Deny d ∷ []) ≡ None
held_denied E d [] = refl
held_denied E d (Deny d' ∷ later) = held_denied E d later
held_denied E d (Accept k l ∷ later) =
    ap (λ b. cond b (Some k) (replay_held E (later ++ Deny d ∷ []))) (lasts_denied E k d later)
    ∙ held_denied E d later

-- ---- the view where something is held

-- it is permitted, with something the same
pub record IsHeld {M L D : Type 0} (E : M → M → Bool) (h : M)
    (past : List (Step M L D)) : Type 0 where
  pub shown : M
  pub view_is : view_of (map done past) ≡ Permitted shown
  pub same : E h shown ≡ true
  pub nonempty : past ≡ [] → ⊥

held_view_back : {M L D : Type 0} (E : M → M → Bool) (o : IsEquivalence E) (h : M)
    (past : List (Step M L D)) → replay_held E (reverse past) ≡ Some h → IsHeld E h past
held_view_back E o h [] e = cc
held_view_back {M} {L} {D} E o h (Accept m l ∷ past) e = record {
  shown = m;
  view_is = refl;
  same = cases (replay_held E (reverse past))
      (sym (held_more E o m l (reverse past))
      ∙ ap (replay_held E) (sym (reverse-append (Accept m l ∷ []) past)) ∙ e);
  nonempty = λ n. cc;
}
  where
    cases : (r : Option M) → Some (held_next E r m) ≡ Some h → E h m ≡ true
    cases None f = let g : m ≡ h = cc in subst (λ x. E x m ≡ true) g (o.refl m)
    cases (Some k) f = let g : cond (E k m) k m ≡ h = cc in
        elim (known (E k m)) [
          | Yes y ↦ let i : k ≡ h = sym (ap (λ b. cond b k m) y) ∙ g in
              subst (λ x. E x m ≡ true) i y
          | No n ↦ let i : m ≡ h = sym (ap (λ b. cond b k m) n) ∙ g in
              subst (λ x. E x m ≡ true) i (o.refl m)
        ]
held_view_back E o h (Deny d ∷ past) e = let f : None ≡ Some h =
    sym (held_denied E d (reverse past))
    ∙ ap (replay_held E) (sym (reverse-append (Deny d ∷ []) past)) ∙ e in cc

pub held_view : {M L D : Type 0} (E : M → M → Bool) (o : IsEquivalence E) (h : M)
    (steps : List (Step M L D)) → replay_held E steps ≡ Some h → IsHeld E h (reverse steps)
held_view E o h steps e =
    held_view_back E o h (reverse steps) (ap (replay_held E) (reverse-reverse steps) ∙ e)
