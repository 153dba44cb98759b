-- What a first step, and one more step, replay to.
use Rattle.std.proofs.Common.{◌≡◌, Bool, true, false, cond, List, [], ◌∷◌, ◌++◌, IsTrue, refl}
use Rattle.std.specs.Cmp.{IsEquivalence}
use Rattle.spf_view.specs.Standing.{Kept, IsShowing, ReplaysTo, is_change, shown_by, raised}
use Rattle.spf_view.specs.Standing.{kept_first, kept_next}
use Rattle.spf_view.specs.Steps.{Step, Accept, Deny, IsLegal, is_accept}
use Rattle.spf_view.proofs.StandsLemmas.{stands_opening, stands_changed, stands_unchanged}

pub first_accepts : {M L D : Type 0} (fits : L → M → Bool) (step : Step M L D)
    → IsLegal fits (step ∷ []) → IsTrue (is_accept step)
first_accepts fits (Accept m l) legal = refl
first_accepts fits (Deny d) legal = absurd legal.begins

pub replays_first : {M L D : Type 0} (E : M → M → Bool) (fits : L → M → Bool)
    (step : Step M L D) → IsLegal fits (step ∷ []) → ReplaysTo E (step ∷ []) (kept_first step)
replays_first E fits (Accept m l) legal = record { stands = stands_opening E m l; showing = tt }
replays_first E fits (Deny d) legal = absurd legal.begins

shows_step : {M L D : Type 0} (step : Step M L D) → IsShowing (shown_by step)
shows_step (Accept m l) = tt
shows_step (Deny d) = tt

more : {M L D : Type 0} (E : M → M → Bool) (o : IsEquivalence E) (b : Bool)
    (steps : List (Step M L D)) (kept : Kept M D) (step : Step M L D)
    → is_change E kept.view step ≡ b → ReplaysTo E steps kept
    → ReplaysTo E (steps ++ step ∷ [])
    (cond b (record { revision = raised kept.revision; view = shown_by step }) kept)
more E o true steps kept step is replays = record {
  stands = stands_changed E o steps kept step replays.showing replays.stands is;
  showing = shows_step step;
}
more E o false steps kept step is replays = record {
  stands = stands_unchanged E o steps kept step replays.showing replays.stands is;
  showing = replays.showing;
}

pub replays_after : {M L D : Type 0} (E : M → M → Bool) (o : IsEquivalence E)
    (steps : List (Step M L D)) (kept : Kept M D) (step : Step M L D) → ReplaysTo E steps kept
    → ReplaysTo E (steps ++ step ∷ []) (kept_next E kept step)
replays_after E o steps kept step replays =
    more E o (is_change E kept.view step) steps kept step refl replays
