-- The revision after an event after which nothing is visible.
use Rattle.std.proofs.Common.{◌≡◌, refl, Bool, true, false, ◌||◌, List, [], ◌∷◌, Option, None, Some}
use Rattle.std.proofs.Common.{is_some}
use Rattle.std.specs.Option.{option_map_or}
use Rattle.spf_view.specs.Views.{Subject, Accepted, Waiting, brings, has_synced, last_moment}
use Rattle.spf_view.specs.Views.{denied_or_passed, outcomes, last_accepted, first_denial, view_from}
use Rattle.spf_view.specs.Views.{view_of, revision_of}

-- where nothing is visible, nothing is the last accepted
unseen : {M D : Type 0} (a : Option M) (d : Option D) → view_from a d ≡ Waiting → a ≡ None
unseen None d is = refl
unseen (Some m) None is = absurd cc
unseen (Some m) (Some d) is = absurd cc

-- an accepted event remains the last accepted one
nothing_synced : {E M L D : Type 0} (s : Subject E M L D) (past : List E)
    → last_accepted (outcomes s past) ≡ None → has_synced s past ≡ false
nothing_synced s [] none = refl
nothing_synced {E} {M} {L} {D} s (e ∷ past) none =
    by (λ i. nothing_synced s past i) (brings s (has_synced s past) (last_moment s past) e)
    (s.denial e) (has_synced s past) none
  where
    by : (last_accepted (outcomes s past) ≡ None → has_synced s past ≡ false)
        → (o : Option M) (q : Option D) (b : Bool)
        → last_accepted (option_map_or Accepted o (denied_or_passed b q) ∷ outcomes s past) ≡ None
        → (is_some o || has_synced s past) ≡ false
    by before (Some m) q b i = absurd cc
    by before None None b i = before i
    by before None (Some d) true i = before i
    by before None (Some d) false i = before i

-- such an event passes
pub revision_unseen : {E M L D : Type 0} (s : Subject E M L D) (same : M → M → Bool) (past : List E)
    (e : E) → view_of (outcomes s (e ∷ past)) ≡ Waiting
    → revision_of same (outcomes s (e ∷ past)) ≡ revision_of same (outcomes s past)
revision_unseen {E} {M} {L} {D} s same past e waiting =
    by (brings s (has_synced s past) (last_moment s past) e) (s.denial e) (has_synced s past)
    (λ i. nothing_synced s past i)
    (unseen (last_accepted (outcomes s (e ∷ past))) (first_denial (outcomes s (e ∷ past))) waiting)
  where
    by : (o : Option M) (q : Option D) (b : Bool)
        → (last_accepted (outcomes s past) ≡ None → b ≡ false)
        → last_accepted (option_map_or Accepted o (denied_or_passed b q) ∷ outcomes s past) ≡ None
        → revision_of same (option_map_or Accepted o (denied_or_passed b q) ∷ outcomes s past)
        ≡ revision_of same (outcomes s past)
    by (Some m) q b synced i = absurd cc
    by None None b synced i = refl
    by None (Some d) false synced i = refl
    by None (Some d) true synced i = absurd (let no = synced i in cc)
