-- What a snapshot keeps, and the steps that it stands for.
use Rattle.std.specs.Prelude.{◌≡◌, ℕ, ◌+◌, ◌-◌, ◌^◌, min, ℤ, Bool, true, false, not, if◌then◌else◌}
use Rattle.std.specs.Prelude.{List, [], reverse, Option, None, Some, is_some}
use Rattle.spf_view.specs.Views.{Subject, View, Waiting, Withdrawn, Permitted, has_synced}
use Rattle.spf_view.specs.Views.{last_moment}
use Rattle.spf_view.specs.Steps.{Step, Accept, Deny, steps_of, replay_view, replay_revision}
use Rattle.spf_view.specs.Steps.{replay_held}

abbrev pub reason_of : {M D : Type 0} → View M D → Option D
reason_of Waiting = None
reason_of (Withdrawn d) = Some d
reason_of (Permitted m) = None

abbrev pub held_in : {M D : Type 0} → View M D → Option M
held_in Waiting = None
held_in (Withdrawn d) = None
held_in (Permitted m) = Some m

-- the view is not waiting
abbrev pub IsShowing : {M D : Type 0} → View M D → Type 0
IsShowing Waiting = ⊥
IsShowing (Withdrawn d) = Unit {0}
IsShowing (Permitted m) = Unit {0}

-- The revision, the held material and the reason of a withdrawal
-- are those that a list of steps makes. (The view of the last step
-- may have other material than the held one; the two are the same.)
pub record StandsFor {M L D : Type 0} (E : M → M → Bool) (steps : List (Step M L D)) (revision : ℕ)
    (held : Option M) (reason : Option D) : Type 0 where
  pub revision_is : revision ≡ replay_revision E steps
  pub held_is : held ≡ replay_held E steps
  pub reason_is : reason ≡ reason_of (replay_view steps)

-- a revision, and a view with the held material
pub record Kept (M D : Type 0) : Type 0 where
  pub revision : ℕ
  pub view : View M D

-- what is kept stands for these steps
abbrev pub Stands : {M L D : Type 0} → (M → M → Bool) → List (Step M L D) → Kept M D → Type 0
Stands E steps kept = StandsFor E steps kept.revision (held_in kept.view) (reason_of kept.view)

-- what is kept, where anything is, stands for these steps
abbrev pub StandsIf : {M L D : Type 0} → (M → M → Bool) → List (Step M L D) → Option (Kept M D)
    → Type 0
StandsIf E steps None = steps ≡ []
StandsIf E steps (Some kept) = Stands E steps kept

-- the steps replay to what is kept, which shows something
pub record ReplaysTo {M L D : Type 0} (E : M → M → Bool) (steps : List (Step M L D))
    (kept : Kept M D) : Type 0 where
  pub stands : Stands E steps kept
  pub showing : IsShowing kept.view

-- whether one more step makes a change
abbrev pub is_change : {M L D : Type 0} → (M → M → Bool) → View M D → Step M L D → Bool
is_change E (Permitted h) (Accept m l) = not (E h m)
is_change E (Permitted h) (Deny d) = true
is_change E (Withdrawn d) (Accept m l) = true
is_change E (Withdrawn d) (Deny d') = false
is_change E Waiting s = true

abbrev pub shown_by : {M L D : Type 0} → Step M L D → View M D
shown_by (Accept m l) = Permitted m
shown_by (Deny d) = Withdrawn d

-- a revision, raised as far as its type goes
abbrev pub raised : ℕ → ℕ
raised r = min (r + 1) (2 ^ 64 - 1)

-- what is kept after the first step
abbrev pub kept_first : {M L D : Type 0} → Step M L D → Kept M D
kept_first s = record { revision = 0; view = shown_by s }

-- What is kept after one more step: where nothing changes
-- it stays, and so unchanged material keeps the older one.
abbrev pub kept_next : {M L D : Type 0} → (M → M → Bool) → Kept M D → Step M L D → Kept M D
kept_next E kept s =
    if is_change E kept.view s then (record { revision = raised kept.revision; view = shown_by s })
    else kept

-- Where a session stands after these events: what it keeps
-- says whether one was accepted and stands for their steps.
pub record KeptAfter {E M L D : Type 0} (s : Subject E M L D) (events : List E) (now : Option ℤ)
    (kept : Option (Kept M D)) : Type 0 where
  pub synced : has_synced s (reverse events) ≡ is_some kept
  pub moment : last_moment s (reverse events) ≡ now
  pub stands : StandsIf s.is_same (steps_of s events) kept
