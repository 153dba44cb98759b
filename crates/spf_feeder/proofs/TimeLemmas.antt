-- What a clock gave, and the moments of a run.
use Rattle.std.proofs.Common.{◌≡◌, false, List, [], ◌∷◌, ◌++◌, Option, None, Some, refl, sym, ap}
use Rattle.std.proofs.Common.{◌∙◌}
use Rattle.std.specs.Prelude.{ℤ}
use Rattle.std.proofs.lemmas.List.{append-nil, append_assoc}
use Rattle.spf_feed.specs.declared.event.SessionEvent.{SessionEvent}
use Rattle.spf_feed.specs.declared.event.SessionEvent.TheVariants as events
use Rattle.spf_feeder.specs.Orderly.{is_moment}
use Rattle.spf_feeder.specs.Times.{GivesMoments, TakesMoment, at_moment, known_moments, moments_in}

pub moments_append : {I : Type 0} (xs ys : List (SessionEvent I))
    → moments_in (xs ++ ys) ≡ moments_in xs ++ moments_in ys
moments_append [] ys = refl
moments_append (events.Moment m ∷ xs) ys = ap (λ l. m ∷ l) (moments_append xs ys)
moments_append (events.ClientMade ∷ xs) ys = moments_append xs ys
moments_append (events.ClientFailed x ∷ xs) ys = moments_append xs ys
moments_append (events.Connected ∷ xs) ys = moments_append xs ys
moments_append (events.ConnectStatus x ∷ xs) ys = moments_append xs ys
moments_append (events.Item x ∷ xs) ys = moments_append xs ys
moments_append (events.ItemStatus x ∷ xs) ys = moments_append xs ys
moments_append (events.StreamEnd ∷ xs) ys = moments_append xs ys
moments_append (events.Close ∷ xs) ys = moments_append xs ys

known_append : (xs ys : List (Option ℤ))
    → known_moments (xs ++ ys) ≡ known_moments xs ++ known_moments ys
known_append [] ys = refl
known_append (None ∷ xs) ys = known_append xs ys
known_append (Some m ∷ xs) ys = ap (λ l. m ∷ l) (known_append xs ys)

pub gives_more : {I : Type 0} (a b c : Option (List (Option ℤ))) (r s t : List (SessionEvent I))
    → GivesMoments a b r s → GivesMoments b c s t → GivesMoments a c r t
gives_more None b c r s t h k = tt
gives_more (Some a) None c r s t h k = absurd h
gives_more (Some a) (Some b) None r s t h k = absurd k
gives_more (Some a) (Some b) (Some c) r s t (given, is, run) (given', is', run') = (
  given ++ given',
  is ∙ ap (λ l. given ++ l) is' ∙ sym (append_assoc given given' c),
  run' ∙ ap (λ l. l ++ known_moments given') run
      ∙ append_assoc (moments_in r) (known_moments given) (known_moments given')
      ∙ ap (λ l. moments_in r ++ l) (sym (known_append given given')),
)

taken : (old new : List (Option ℤ)) (m : ℤ) → at_moment old ≡ Some m ∷ new
    → (given : List (Option ℤ)) × (old ≡ given ++ new) × (known_moments given ≡ m ∷ [])
taken [] new m h = absurd cc
taken (None ∷ old) new m h =
    let (given, is, known) = taken old new m h in
    (None ∷ given, ap (λ l. None ∷ l) is, known)
taken (Some x ∷ old) new m h =
    let same : x ≡ m = cc in
    let rest : old ≡ new = cc in
    (Some x ∷ [], ap (λ l. Some x ∷ l) rest, ap (λ y. y ∷ []) same)

pub gives_moment : {I : Type 0} (old new : Option (List (Option ℤ))) (m : ℤ)
    (run run' : List (SessionEvent I)) → TakesMoment old new m → run' ≡ run ++ events.Moment m ∷ []
    → GivesMoments old new run run'
gives_moment None new m run run' h is = tt
gives_moment (Some old) None m run run' h is = absurd h
gives_moment (Some old) (Some new) m run run' h is =
    let (given, split, known) = taken old new m h in (
      given,
      split,
      ap moments_in is ∙ moments_append run (events.Moment m ∷ [])
          ∙ ap (λ l. moments_in run ++ l) (sym known),
    )

no_moments : {I : Type 0} (e : SessionEvent I) → is_moment e ≡ false → moments_in (e ∷ []) ≡ []
no_moments events.ClientMade h = refl
no_moments (events.ClientFailed x) h = refl
no_moments events.Connected h = refl
no_moments (events.ConnectStatus x) h = refl
no_moments (events.Item x) h = refl
no_moments (events.ItemStatus x) h = refl
no_moments events.StreamEnd h = refl
no_moments (events.Moment x) h = absurd cc
no_moments events.Close h = refl

same_moments : {I : Type 0} (a b : Option (List (Option ℤ))) (r s t : List (SessionEvent I))
    → moments_in t ≡ moments_in s → GivesMoments a b r s → GivesMoments a b r t
same_moments None b r s t is h = tt
same_moments (Some a) None r s t is h = absurd h
same_moments (Some a) (Some b) r s t is (given, split, run) = (given, split, is ∙ run)

-- one more event, which is not a moment
pub gives_still : {I : Type 0} (a b : Option (List (Option ℤ))) (r s t : List (SessionEvent I))
    (e : SessionEvent I) → is_moment e ≡ false → t ≡ s ++ e ∷ [] → GivesMoments a b r s
    → GivesMoments a b r t
gives_still a b r s t e none is h =
    same_moments a b r s t
    (ap moments_in is ∙ moments_append s (e ∷ [])
    ∙ ap (λ l. moments_in s ++ l) (no_moments e none) ∙ append-nil (moments_in s)) h
