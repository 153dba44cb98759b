-- The steps that a session publishes, and what a list
-- of steps makes visible. The oldest step is the first.
use Rattle.std.specs.Prelude.{◌≢◌, ℕ, ℤ, Bool, true, false, ◌&&◌, IsTrue, if◌then◌else◌, List, []}
use Rattle.std.specs.Prelude.{◌∷◌, map, reverse, Option, None, Some}
use Rattle.std.specs.List.{AllByRecursion}
use Rattle.spf_view.specs.Views.{Subject, Outcome, Accepted, Denied, Passed, View, outcomes}
use Rattle.spf_view.specs.Views.{outcome_with, view_of, revision_of}

-- material that was accepted with the limits that it keeps, or the reason of a denial
pub data Step (M L D : Type 0) : Type 0 where
  Accept : M → L → Step M L D
  Deny : D → Step M L D

abbrev pub is_accept : {M L D : Type 0} → Step M L D → Bool
is_accept (Accept m l) = true
is_accept (Deny d) = false

-- the list is not empty, where it is known
abbrev pub HasStep : {S : Type 0} → Option (List S) → Type 0
HasStep None = Unit {0}
HasStep (Some steps) = steps ≢ []

-- a step may come next: an Accept that fits, or a Deny after another step
abbrev pub MayFollowBy : {M L D : Type 0} → (L → M → Bool) → Option (List (Step M L D))
    → Step M L D → Type 0
MayFollowBy fits known (Accept m l) = IsTrue (fits l m)
MayFollowBy fits known (Deny d) = HasStep known

-- the step of an outcome
abbrev pub step_in : {M L D : Type 0} → L → Outcome M D → Option (Step M L D)
step_in l (Accepted m) = Some (Accept m l)
step_in l (Denied d) = Some (Deny d)
step_in l Passed = None

-- the step of an event, where `synced` says whether one before
-- it is accepted and `now` is the last moment before it
abbrev pub step_with : {E M L D : Type 0} → Subject E M L D → Bool → Option ℤ → E
    → Option (Step M L D)
step_with s synced now e = step_in s.limits (outcome_with s synced now e)

-- the steps of outcomes, newest first
abbrev pub steps_back : {M L D : Type 0} → L → List (Outcome M D) → List (Step M L D)
steps_back l [] = []
steps_back l (Accepted m ∷ past) = Accept m l ∷ steps_back l past
steps_back l (Denied d ∷ past) = Deny d ∷ steps_back l past
steps_back l (Passed ∷ past) = steps_back l past

-- in order, a step for each accepted event and for each denial
abbrev pub steps_of : {E M L D : Type 0} → Subject E M L D → List E → List (Step M L D)
steps_of s events = reverse (steps_back s.limits (outcomes s (reverse events)))

-- a step as an outcome
abbrev pub done : {M L D : Type 0} → Step M L D → Outcome M D
done (Accept m l) = Accepted m
done (Deny d) = Denied d

abbrev pub replay_view : {M L D : Type 0} → List (Step M L D) → View M D
replay_view steps = view_of (map done (reverse steps))

abbrev pub replay_revision : {M L D : Type 0} → (M → M → Bool) → List (Step M L D) → ℕ
replay_revision E steps = revision_of E (map done (reverse steps))

-- each later step accepts what is the same
abbrev pub lasts : {M L D : Type 0} → (M → M → Bool) → M → List (Step M L D) → Bool
lasts E m [] = true
lasts E m (Accept n l ∷ later) = E m n && lasts E m later
lasts E m (Deny d ∷ later) = false

-- the earliest accepted material that lasts
abbrev pub replay_held : {M L D : Type 0} → (M → M → Bool) → List (Step M L D) → Option M
replay_held E [] = None
replay_held E (Accept m l ∷ later) = if lasts E m later then Some m else replay_held E later
replay_held E (Deny d ∷ later) = replay_held E later

-- an accepted step keeps the limits that it carries, and its choice is none or in range
abbrev pub IsFit : {M L D : Type 0} → (L → M → Bool) → Step M L D → Type 0
IsFit fits (Accept m l) = IsTrue (fits l m)
IsFit fits (Deny d) = Unit {0}

abbrev pub BeginsWithAccept : {M L D : Type 0} → List (Step M L D) → Type 0
BeginsWithAccept [] = ⊥
BeginsWithAccept (Accept m l ∷ later) = Unit {0}
BeginsWithAccept (Deny d ∷ later) = ⊥

-- there is a first step, it accepts, and each step fits
pub record IsLegal {M L D : Type 0} (fits : L → M → Bool) (steps : List (Step M L D)) : Type 0 where
  pub begins : BeginsWithAccept steps
  pub each : AllByRecursion (IsFit fits) steps
