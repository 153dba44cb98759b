-- Which events of a session are accepted, and what they make visible. E are the events, M is the
-- material of an accepted item with its choice, L are the limits, and D the reasons of a denial.
-- Lists called `past` have the newest first, so that looking back is recursion on the list.
use Rattle.std.specs.Prelude.{ℕ, zero, suc, slice_get, ◌+◌, ◌-◌, ◌^◌, min, Bool, true, false, ◌||◌}
use Rattle.std.specs.Prelude.{if◌then◌else◌, ℤ, List, [], ◌∷◌, take, reverse, Option, None, Some}
use Rattle.std.specs.Prelude.{is_some}
use Rattle.std.specs.Option.{option_or, option_map_or}

-- ---- events

-- what the events of a kind of session say
pub record Subject (E M L D : Type 0) : Type 0 where
  -- the material of an item that breaks no rule, with the picker's choice
  pub parsed : E → Option M
  -- the limits of the setting
  pub limits : L
  pub is_within : L → M → Bool
  -- whether it may be the first accepted one, where this is the last moment before it
  pub may_sync : M → Option ℤ → Bool
  -- the reason of a status that denies
  pub denial : E → Option D
  pub moment : E → Option ℤ
  -- material between which no change is seen
  pub is_same : M → M → Bool

-- what becomes of an event
pub data Outcome (M D : Type 0) : Type 0 where
  Accepted : M → Outcome M D
  Denied : D → Outcome M D
  Passed : Outcome M D

-- what is visible
pub data View (M D : Type 0) : Type 0 where
  Waiting : View M D
  Withdrawn : D → View M D
  Permitted : M → View M D

abbrev pub keep_if : {A : Type 0} → (A → Bool) → Option A → Option A
keep_if test None = None
keep_if test (Some a) = if test a then Some a else None

abbrev pub last_moment : {E M L D : Type 0} → Subject E M L D → List E → Option ℤ
last_moment s [] = None
last_moment s (e ∷ past) = option_or (s.moment e) (last_moment s past)

-- What an event brings, where it is accepted. `synced` says
-- whether one before it is, `now` is the last moment before it.
abbrev pub brings : {E M L D : Type 0} → Subject E M L D → Bool → Option ℤ → E → Option M
brings s synced now e =
    keep_if (λ m. synced || s.may_sync m now) (keep_if (s.is_within s.limits) (s.parsed e))

-- whether one of these is accepted
abbrev pub has_synced : {E M L D : Type 0} → Subject E M L D → List E → Bool
has_synced s [] = false
has_synced s (e ∷ past) =
    is_some (brings s (has_synced s past) (last_moment s past) e) || has_synced s past

-- a status denies only after an accepted event
abbrev pub denied_or_passed : {M D : Type 0} → Bool → Option D → Outcome M D
denied_or_passed synced None = Passed
denied_or_passed synced (Some d) = if synced then Denied d else Passed

abbrev pub outcome_with : {E M L D : Type 0} → Subject E M L D → Bool → Option ℤ → E → Outcome M D
outcome_with s synced now e =
    option_map_or Accepted (brings s synced now e) (denied_or_passed synced (s.denial e))

-- what becomes of an event after these
abbrev pub outcome : {E M L D : Type 0} → Subject E M L D → E → List E → Outcome M D
outcome s e past = outcome_with s (has_synced s past) (last_moment s past) e

abbrev pub outcomes : {E M L D : Type 0} → Subject E M L D → List E → List (Outcome M D)
outcomes s [] = []
outcomes s (e ∷ past) = outcome s e past ∷ outcomes s past

-- ---- views

-- the last accepted material
abbrev pub last_accepted : {M D : Type 0} → List (Outcome M D) → Option M
last_accepted [] = None
last_accepted (Accepted m ∷ past) = Some m
last_accepted (Denied d ∷ past) = last_accepted past
last_accepted (Passed ∷ past) = last_accepted past

-- the reason of the first denial after the last accepted material
abbrev pub first_denial : {M D : Type 0} → List (Outcome M D) → Option D
first_denial [] = None
first_denial (Accepted m ∷ past) = None
first_denial (Denied d ∷ past) = option_or (first_denial past) (Some d)
first_denial (Passed ∷ past) = first_denial past

abbrev pub view_from : {M D : Type 0} → Option M → Option D → View M D
view_from None reason = Waiting
view_from (Some m) (Some d) = Withdrawn d
view_from (Some m) None = Permitted m

-- permitted exactly if no denial follows the last accepted material
abbrev pub view_of : {M D : Type 0} → List (Outcome M D) → View M D
view_of past = view_from (last_accepted past) (first_denial past)

-- ---- revisions

-- the views at the accepted events and the denials, newest first
abbrev pub views_of : {M D : Type 0} → List (Outcome M D) → List (View M D)
views_of [] = []
views_of (Accepted m ∷ past) = view_of (Accepted m ∷ past) ∷ views_of past
views_of (Denied d ∷ past) = view_of (Denied d ∷ past) ∷ views_of past
views_of (Passed ∷ past) = views_of past

-- both withdrawn, or both permitted with the same material
abbrev pub same_view : {M D : Type 0} → (M → M → Bool) → View M D → View M D → Bool
same_view E (Withdrawn d) (Withdrawn d') = true
same_view E (Permitted m) (Permitted m') = E m m'
same_view E (Withdrawn d) (Permitted m) = false
same_view E (Permitted m) (Withdrawn d) = false
same_view E Waiting v = false
same_view E (Withdrawn d) Waiting = false
same_view E (Permitted m) Waiting = false

-- how many views differ from the one before
abbrev pub changes : {V : Type 0} → (V → V → Bool) → List V → ℕ
changes E [] = 0
changes E (v ∷ []) = 0
changes E (w ∷ (v ∷ vs)) = (if E v w then 0 else 1) + changes E (v ∷ vs)

-- the number of changes, which stops at the end of its type
abbrev pub revision_of : {M D : Type 0} → (M → M → Bool) → List (Outcome M D) → ℕ
revision_of E past = min (changes (same_view E) (views_of past)) (2 ^ 64 - 1)

-- ---- after these events, the oldest first

abbrev pub view_after : {E M L D : Type 0} → Subject E M L D → List E → View M D
view_after s events = view_of (outcomes s (reverse events))

abbrev pub revision_after : {E M L D : Type 0} → Subject E M L D → List E → ℕ
revision_after s events = revision_of s.is_same (outcomes s (reverse events))

abbrev pub moment_after : {E M L D : Type 0} → Subject E M L D → List E → Option ℤ
moment_after s events = last_moment s (reverse events)

-- what becomes of one more event
abbrev pub outcome_after : {E M L D : Type 0} → Subject E M L D → List E → E → Outcome M D
outcome_after s events e = outcome s e (reverse events)

-- ---- at the event of a number, from 1

abbrev pub view_at : {E M L D : Type 0} → Subject E M L D → List E → ℕ → View M D
view_at s events k = view_after s (take k events)

abbrev pub revision_at : {E M L D : Type 0} → Subject E M L D → List E → ℕ → ℕ
revision_at s events k = revision_after s (take k events)

abbrev pub moment_at : {E M L D : Type 0} → Subject E M L D → List E → ℕ → Option ℤ
moment_at s events k = moment_after s (take k events)

-- What becomes of event k: it is accepted where this is
-- `Accepted m`, and a denial where it is `Denied d`.
abbrev pub outcome_at : {E M L D : Type 0} → Subject E M L D → List E → ℕ → Outcome M D
outcome_at s events zero = Passed
outcome_at s events (suc k) =
    option_map_or (λ e. outcome_after s (take k events) e) (slice_get events k) Passed
