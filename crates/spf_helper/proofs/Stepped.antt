-- A session that is followed to its end has a step, since something in it is accepted.
use Rattle.std.proofs.Common.{◌≡◌, ◌≢◌, ℕ, Bool, true, false, ◌||◌, cond, List, [], ◌∷◌, ◌++◌}
use Rattle.std.proofs.Common.{length, take, Option, None, Some, Ok, refl, sym, ◌∙◌, ap}
use Rattle.std.proofs.Common.{arith, inl, inr, ◌⊎◌}
use Rattle.std.proofs.lemmas.List.{take_all}
use Rattle.std.specs.Prelude.{is_some, IsTrue}
use Rattle.std.specs.Option.{option_map_or, option_to_list}
use Rattle.spf_view.specs.Sessions.{Whole, end_by, is_free, IsEndOf, refusal_of, onto, all_of}
use Rattle.spf_view.specs.Steps.{step_in}
use Rattle.spf_view.specs.Views.{Outcome, Accepted, brings, denied_or_passed, has_synced}
use Rattle.spf_view.specs.Views.{last_moment}
use Rattle.spf_feed.specs.declared.limits.ResourceLimits.{ResourceLimits}
use Rattle.spf_feed.specs.Items.{Event, Rules, subject}
use Rattle.spf_feed.specs.Run.{stream, outputs, end_for}
use Rattle.spf_feed.specs.Steps.{PlainStep}
use Rattle.spf_helper.specs.Runs.{Follows, HasStep, helper_rules}

-- an end that is whole was not refused, and something is accepted
whole_by : {A : Type 0} (refusal : Option A) (whole synced full : Bool) (count n : ℕ)
    → Whole n ≡ end_by (record {
      refusal = refusal;
      whole = whole;
      synced = synced;
      full = full;
      count = count;
    })
    → (refusal ≡ None) × (synced ≡ true)
whole_by (Some a) whole synced full count n is = absurd cc
whole_by None true true full count n is = (refl, refl)
whole_by None true false full count n is = absurd cc
whole_by None false synced true count n is = absurd cc
whole_by None false synced false count n is = absurd cc

-- what is accepted has a step
some_step : {M L D : Type 0} (brought : Option M) (otherwise : Outcome M D) (limits : L)
    → is_some brought ≡ true
    → option_to_list (step_in limits (option_map_or Accepted brought otherwise)) ≡ [] → ⊥
some_step None otherwise limits is none = absurd cc
some_step (Some m) otherwise limits is none = absurd cc

unrefused : {A : Type 0} (first others : Option A) → cond (is_some first) first others ≡ None
    → (is_some first ≡ false) × (others ≡ None)
unrefused None others is = (refl, is)
unrefused (Some a) others is = absurd cc

not_cut : {X : Type 0} (b : Bool) (xs : List X) → b ≡ false → cond b [] xs ≡ [] → xs ≡ []
not_cut true xs is none = absurd cc
not_cut false xs is none = none

both_empty : {X : Type 0} (xs ys : List X) → xs ++ ys ≡ [] → (xs ≡ []) × (ys ≡ [])
both_empty [] ys is = (refl, is)
both_empty (x ∷ xs) ys is = absurd cc

neither : (b c : Bool) → b ≡ false → c ≡ false → (b || c) ≡ false
neither true c is too = absurd cc
neither false c is too = too

by_test : {Q : Type 0} (b : Bool) → (b ≡ true → Q) → (b ≡ false → Q) → Q
by_test true first second = first refl
by_test false first second = second refl

stepped : (rules : Rules) (past es : List Event) → refusal_of (stream rules) past es ≡ None
    → has_synced (subject rules) past ≡ false
    → has_synced (subject rules) (onto past es) ≡ true
    → all_of (stream rules) (outputs rules).steps past es ≡ [] → ⊥
unfolding refusal_of onto all_of
stepped rules past [] calm before after none = let no = sym before ∙ after in absurd cc
stepped rules past (e ∷ es) calm before after none =
    let brought = brings (subject rules) (has_synced (subject rules) past)
    (last_moment (subject rules) past) e in
    let goes = unrefused ((stream rules).refusal past e) (refusal_of (stream rules) (e ∷ past) es)
    calm in
    let parts = both_empty ((outputs rules).steps past e)
    (all_of (stream rules) (outputs rules).steps (e ∷ past) es)
    (not_cut (is_some ((stream rules).refusal past e)) _ goes.0 none) in
    by_test (is_some brought)
    (λ accepted. some_step brought
    (denied_or_passed (has_synced (subject rules) past) ((subject rules).denial e)) rules.limits
    accepted parts.0)
    (λ passed. stepped rules (e ∷ past) es goes.1
    (neither (is_some brought) (has_synced (subject rules) past) passed before) after parts.1)

has_step : (limits : ResourceLimits) (max : ℕ) (bytes : List ℕ) (left' held held' : Option (List ℕ))
    (steps : List PlainStep) (count : ℕ)
    → Follows limits max (Some bytes) left' held held' steps (Ok count) → steps ≢ []
has_step limits max bytes left' held held' steps count f none = by_end f.followed.end
  where
    all : List PlainStep
    all = all_of (stream (helper_rules limits)) (outputs (helper_rules limits)).steps []
        f.followed.es

    are : steps ≡ all
    are = f.followed.steps.grows
        ∙ ap (λ (n : ℕ). take n all) (f.followed.steps.all refl)
        ∙ take_all (length all) all (omega arith)

    by_end : IsTrue (is_free (end_for (Ok count)))
        ⊎ IsEndOf (stream (helper_rules limits)) max bytes f.followed.es (end_for (Ok count)) → ⊥
    by_end (inl free) = absurd cc
    by_end (inr ended) =
        let whole = whole_by _ _ _ _ _ count ended.is in
        stepped (helper_rules limits) [] f.followed.es whole.0 refl whole.1 (sym are ∙ none)

pub with_step : (limits : ResourceLimits) (max : ℕ) (left left' held held' : Option (List ℕ))
    (steps : List PlainStep) (count : ℕ)
    → Follows limits max left left' held held' steps (Ok count) → HasStep left steps
with_step limits max None left' held held' steps count f = tt
with_step limits max (Some bytes) left' held held' steps count f =
    has_step limits max bytes left' held held' steps count f
