-- What one more step makes of the revision and of the view.
use Rattle.std.proofs.Common.{◌≡◌, ℕ, ◌+◌, ◌-◌, ◌^◌, ◌<◌, min, Bool, true, false, cond, List, []}
use Rattle.std.proofs.Common.{◌∷◌, ◌++◌, map, reverse, Option, None, Some, refl, sym, ap, ◌∙◌}
use Rattle.std.proofs.Common.{arith}
use Rattle.std.specs.Option.{option_or}
use Rattle.spf_view.specs.Views.{Denied, View, Waiting, Withdrawn, Permitted, last_accepted}
use Rattle.spf_view.specs.Views.{first_denial, view_from, view_of, views_of, same_view, changes}
use Rattle.spf_view.specs.Views.{revision_of}
use Rattle.spf_view.specs.Steps.{Step, Accept, Deny, done, replay_view, replay_revision}
use Rattle.spf_view.specs.Standing.{reason_of, raised}
use Rattle.spf_view.proofs.ViewLemmas.{last_first}

-- ---- the revision

min_raised : (n k : ℕ) → min (1 + n) k ≡ min (min n k + 1) k
min_raised n k = omega arith

pub raised_below : (r : ℕ) → r < 2 ^ 64 - 1 → raised r ≡ r + 1
raised_below r h = omega arith

-- a step after others
revision_step : {M L D : Type 0} (E : M → M → Bool) (s : Step M L D) (past : List (Step M L D))
    (b : Bool) → (past ≡ [] → ⊥)
    → same_view E (view_of (map done past)) (view_of (done s ∷ map done past)) ≡ b
    → revision_of E (map done (s ∷ past))
    ≡ cond b (revision_of E (map done past)) (raised (revision_of E (map done past)))
revision_step E s [] b h e = absurd (h refl)
revision_step {M} {L} {D} E s (p ∷ past) b h e =
    ap (λ n. min n (2 ^ 64 - 1)) (more s p)
    ∙ ap (λ c. min ((cond c 0 1) + changes (same_view E) (views_of (map done (p ∷ past))))
    (2 ^ 64 - 1)) e ∙ count b
  where
    more : (s p : Step M L D)
        → changes (same_view E) (views_of (map done (s ∷ (p ∷ past))))
        ≡ cond (same_view E (view_of (map done (p ∷ past)))
        (view_of (done s ∷ map done (p ∷ past)))) 0 1
        + changes (same_view E) (views_of (map done (p ∷ past)))
    more (Accept m l) (Accept n k) = refl
    more (Accept m l) (Deny d) = refl
    more (Deny d) (Accept n k) = refl
    more (Deny d) (Deny d') = refl

    count : (c : Bool)
        → min ((cond c 0 1) + changes (same_view E) (views_of (map done (p ∷ past)))) (2 ^ 64 - 1)
        ≡ cond c (revision_of E (map done (p ∷ past)))
        (raised (revision_of E (map done (p ∷ past))))
    count true =
        ap (λ n. min n (2 ^ 64 - 1))
        (let z : 0 + changes (same_view E) (views_of (map done (p ∷ past)))
        ≡ changes (same_view E) (views_of (map done (p ∷ past))) = omega arith in z)
    count false = min_raised (changes (same_view E) (views_of (map done (p ∷ past)))) (2 ^ 64 - 1)

-- it stays where the views before and after are the same, and is raised otherwise
pub revision_more : {M L D : Type 0} (E : M → M → Bool) (s : Step M L D) (steps : List (Step M L D))
    (b : Bool) → (reverse steps ≡ [] → ⊥)
    → same_view E (replay_view steps) (view_of (done s ∷ map done (reverse steps))) ≡ b
    → replay_revision E (steps ++ s ∷ [])
    ≡ cond b (replay_revision E steps) (raised (replay_revision E steps))
revision_more E s steps b h e =
    ap (λ p. revision_of E (map done p)) (last_first steps s)
    ∙ revision_step E s (reverse steps) b h e

-- ---- the view

pub view_more : {M L D : Type 0} (s : Step M L D) (steps : List (Step M L D))
    → replay_view (steps ++ s ∷ []) ≡ view_of (done s ∷ map done (reverse steps))
view_more s steps = ap (λ p. view_of (map done p)) (last_first steps s)

pub reason_view : {M D : Type 0} (v : View M D) (d : D) → Some d ≡ reason_of v → v ≡ Withdrawn d
reason_view Waiting d e = cc
reason_view (Withdrawn d') d e = let f : d ≡ d' = cc in ap Withdrawn (sym f)
reason_view (Permitted m) d e = cc

-- a denial withdraws what is permitted
pub denied_view : {M L D : Type 0} (past : List (Step M L D)) (m : M) (d : D)
    → view_of (map done past) ≡ Permitted m → view_of (Denied d ∷ map done past) ≡ Withdrawn d
denied_view {M} {L} {D} past m d e =
    cases (last_accepted (map done past)) (first_denial (map done past)) e
  where
    cases : (a : Option M) (b : Option D) → view_from a b ≡ Permitted m
        → view_from a (option_or b (Some d)) ≡ Withdrawn d
    cases None b f = cc
    cases (Some a) None f = refl
    cases (Some a) (Some b) f = cc

-- a second denial leaves the reason of the first
pub denied_again : {M L D : Type 0} (past : List (Step M L D)) (d d' : D)
    → view_of (map done past) ≡ Withdrawn d → view_of (Denied d' ∷ map done past) ≡ Withdrawn d
denied_again {M} {L} {D} past d d' e =
    cases (last_accepted (map done past)) (first_denial (map done past)) e
  where
    cases : (a : Option M) (b : Option D) → view_from a b ≡ Withdrawn d
        → view_from a (option_or b (Some d')) ≡ Withdrawn d
    cases None b f = cc
    cases (Some a) None f = cc
    cases (Some a) (Some b) f = f

-- where something is visible, there is a step
pub shown_there : {M L D : Type 0} (steps : List (Step M L D)) (v : View M D)
    → replay_view steps ≡ v → (v ≡ Waiting → ⊥) → reverse steps ≡ [] → ⊥
shown_there steps v e n h = n (sym e ∙ ap (λ p. view_of (map done p)) h)
