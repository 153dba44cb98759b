-- The moments of an initial synchronisation, and its deadline.
use Rattle.std.specs.Prelude.{◌≡◌, ℕ, ◌+◌, ◌-◌, ◌/◌, ◌^◌, min, ℤ, pos, nat_abs, List, [], ◌∷◌}
use Rattle.std.specs.Prelude.{Option, None, Some, ◌++◌}
use Rattle.std.specs.Duration.{as_nanos}
use Rattle.std.specs.declared.time.Duration.{Duration}
use Rattle.spf_feed.specs.declared.event.SessionEvent.{SessionEvent}
use Rattle.spf_feed.specs.declared.event.SessionEvent.TheVariants as events

-- a clock that gives none is asked again
abbrev pub at_moment : List (Option ℤ) → List (Option ℤ)
at_moment [] = []
at_moment (None ∷ moments) = at_moment moments
at_moment (Some moment ∷ moments) = Some moment ∷ moments

-- the first moment that the clock gives is taken, where its moments are known
abbrev pub TakesMoment : Option (List (Option ℤ)) → Option (List (Option ℤ)) → ℤ → Type 0
TakesMoment None new moment = Unit {0}
TakesMoment (Some old) None moment = ⊥
TakesMoment (Some old) (Some new) moment = at_moment old ≡ Some moment ∷ new

-- a duration in whole seconds, rounded up
abbrev pub seconds_of : Duration → ℕ
seconds_of d = (as_nanos d + 999_999_999) / 1_000_000_000

-- the deadline: the first moment, from 0 on, plus the timeout, saturating at the end of its type
abbrev pub deadline_after : ℤ → Duration → ℤ
deadline_after first timeout = pos (min (nat_abs first + seconds_of timeout) (2 ^ 63 - 1))

-- the clock has given no moment so far
abbrev pub AsksOn : Option (List (Option ℤ)) → Option (List (Option ℤ)) → Type 0
AsksOn None new = Unit {0}
AsksOn (Some old) None = ⊥
AsksOn (Some old) (Some new) = at_moment old ≡ at_moment new

-- the moments that the clock gave
abbrev pub known_moments : List (Option ℤ) → List ℤ
known_moments [] = []
known_moments (None ∷ moments) = known_moments moments
known_moments (Some moment ∷ moments) = moment ∷ known_moments moments

-- the moments among events
abbrev pub moments_in : {I : Type 0} → List (SessionEvent I) → List ℤ
moments_in [] = []
moments_in (events.Moment m ∷ run) = m ∷ moments_in run
moments_in (_ ∷ run) = moments_in run

-- The moments that a run has in addition are those that the clock gave, in order, where the moments
-- of the clock are known.
abbrev pub GivesMoments : {I : Type 0} → Option (List (Option ℤ)) → Option (List (Option ℤ))
    → List (SessionEvent I) → List (SessionEvent I) → Type 0
GivesMoments None new before run = Unit {0}
GivesMoments (Some old) None before run = ⊥
GivesMoments (Some old) (Some new) before run = (given : List (Option ℤ)) × (old ≡ given ++ new)
    × (moments_in run ≡ moments_in before ++ known_moments given)
