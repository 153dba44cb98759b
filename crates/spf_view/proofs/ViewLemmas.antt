-- The steps of events make visible what the events do; and what one more event adds.
use Rattle.std.proofs.Common.{◌≡◌, ◌-◌, ◌^◌, min, List, [], ◌∷◌, ◌++◌, map, reverse, Some, refl}
use Rattle.std.proofs.Common.{sym, ap, ◌∙◌}
use Rattle.std.specs.Option.{option_or, option_to_list}
use Rattle.std.proofs.lemmas.List.{append-nil, reverse-append, reverse-reverse}
use Rattle.spf_view.specs.Views.{Subject, Outcome, Accepted, Denied, Passed, Permitted, outcomes}
use Rattle.spf_view.specs.Views.{last_accepted, first_denial, view_from, view_of, views_of}
use Rattle.spf_view.specs.Views.{same_view, changes, revision_of, view_after, revision_after}
use Rattle.spf_view.specs.Views.{outcome_after}
use Rattle.spf_view.specs.Steps.{Accept, Deny, step_in, steps_back, steps_of, done, replay_view}
use Rattle.spf_view.specs.Steps.{replay_revision}

-- ---- events that pass change nothing

last_accepted_steps : {M L D : Type 0} (l : L) (os : List (Outcome M D))
    → last_accepted (map done (steps_back l os)) ≡ last_accepted os
last_accepted_steps l [] = refl
last_accepted_steps l (Accepted m ∷ os) = refl
last_accepted_steps l (Denied d ∷ os) = last_accepted_steps l os
last_accepted_steps l (Passed ∷ os) = last_accepted_steps l os

first_denial_steps : {M L D : Type 0} (l : L) (os : List (Outcome M D))
    → first_denial (map done (steps_back l os)) ≡ first_denial os
first_denial_steps l [] = refl
first_denial_steps l (Accepted m ∷ os) = refl
first_denial_steps l (Denied d ∷ os) = ap (λ o. option_or o (Some d)) (first_denial_steps l os)
first_denial_steps l (Passed ∷ os) = first_denial_steps l os

view_steps : {M L D : Type 0} (l : L) (os : List (Outcome M D))
    → view_of (map done (steps_back l os)) ≡ view_of os
view_steps l os = (λ i. view_from (last_accepted_steps l os i) (first_denial_steps l os i))

views_steps : {M L D : Type 0} (l : L) (os : List (Outcome M D))
    → views_of (map done (steps_back l os)) ≡ views_of os
views_steps l [] = refl
views_steps l (Accepted m ∷ os) = ap (λ vs. Permitted m ∷ vs) (views_steps l os)
views_steps l (Denied d ∷ os) = (λ i. view_steps l (Denied d ∷ os) i ∷ views_steps l os i)
views_steps l (Passed ∷ os) = views_steps l os

-- ---- the steps of events show what the events do

pub link_view : {E M L D : Type 0} (s : Subject E M L D) (events : List E)
    → replay_view (steps_of s events) ≡ view_after s events
link_view s events =
    ap (λ b. view_of (map done b))
    (reverse-reverse (steps_back s.limits (outcomes s (reverse events))))
    ∙ view_steps s.limits (outcomes s (reverse events))

pub link_revision : {E M L D : Type 0} (s : Subject E M L D) (events : List E)
    → replay_revision s.is_same (steps_of s events) ≡ revision_after s events
link_revision s events =
    ap (λ b. revision_of s.is_same (map done b))
    (reverse-reverse (steps_back s.limits (outcomes s (reverse events))))
    ∙ ap (λ vs. min (changes (same_view s.is_same) vs) (2 ^ 64 - 1))
    (views_steps s.limits (outcomes s (reverse events)))

-- ---- one more event

pub last_first : {A : Type 0} (xs : List A) (x : A) → reverse (xs ++ x ∷ []) ≡ x ∷ reverse xs
last_first xs x = reverse-append xs (x ∷ [])

pub outcomes_more : {E M L D : Type 0} (s : Subject E M L D) (events : List E) (e : E)
    → outcomes s (reverse (events ++ e ∷ []))
    ≡ outcome_after s events e ∷ outcomes s (reverse events)
outcomes_more s events e = ap (outcomes s) (last_first events e)

pub steps_back_more : {M L D : Type 0} (l : L) (o : Outcome M D) (os : List (Outcome M D))
    → reverse (steps_back l (o ∷ os)) ≡ reverse (steps_back l os) ++ option_to_list (step_in l o)
steps_back_more l (Accepted m) os = reverse-append (Accept m l ∷ []) (steps_back l os)
steps_back_more l (Denied d) os = reverse-append (Deny d ∷ []) (steps_back l os)
steps_back_more l Passed os = sym (append-nil (reverse (steps_back l os)))

-- the steps with those of one more event
pub steps_more : {E M L D : Type 0} (s : Subject E M L D) (events : List E) (e : E)
    → steps_of s (events ++ e ∷ [])
    ≡ steps_of s events ++ option_to_list (step_in s.limits (outcome_after s events e))
steps_more s events e =
    ap (λ os. reverse (steps_back s.limits os)) (outcomes_more s events e)
    ∙ steps_back_more s.limits (outcome_after s events e) (outcomes s (reverse events))

-- an event that passes leaves the view and the revision
pub passed_view : {E M L D : Type 0} (s : Subject E M L D) (events : List E) (e : E)
    → outcome_after s events e ≡ Passed → view_after s (events ++ e ∷ []) ≡ view_after s events
passed_view s events e h =
    ap view_of (outcomes_more s events e) ∙ ap (λ o. view_of (o ∷ outcomes s (reverse events))) h

pub passed_revision : {E M L D : Type 0} (s : Subject E M L D) (events : List E) (e : E)
    → outcome_after s events e ≡ Passed
    → revision_after s (events ++ e ∷ []) ≡ revision_after s events
passed_revision s events e h =
    ap (revision_of s.is_same) (outcomes_more s events e)
    ∙ ap (λ o. revision_of s.is_same (o ∷ outcomes s (reverse events))) h
