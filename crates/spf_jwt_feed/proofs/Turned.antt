-- A turn that was taken does what its event gives.
use Rattle.std.proofs.Common.{◌≡◌, Bool, true, false, not, cond, List, [], ◌∷◌, Option, None, Some}
use Rattle.std.proofs.Common.{Ok, Err, inl, inr, refl, sym, ap, ◌∙◌, subst}
use Rattle.std.specs.Prelude.{ℤ, is_some, ◌⊎◌}
use Rattle.std.specs.Cmp.{IsEquivalence}
use Rattle.spf_view.specs.Views.{View, Waiting, Withdrawn, Permitted, Outcome, Accepted, Denied}
use Rattle.spf_view.specs.Views.{Passed, has_synced, outcome, outcomes, outcome_with, view_of}
use Rattle.spf_view.specs.Views.{same_view}
use Rattle.spf_view.specs.Steps.{Accept, Deny, step_in}
use Rattle.spf_view.specs.Standing.{Kept, is_change}
use Rattle.spf_view.specs.Keeping.{IsAt, SeenAs}
use Rattle.spf_view.proofs.KeepingLemmas.{synced_at, outcome_at, waiting_at, view_at, update_seen}
use Rattle.spf_feed.specs.declared.follow_error.FollowError.{FollowError}
use Rattle.spf_feed.specs.declared.follow_error.FollowError.TheVariants as follow_errors
use Rattle.spf_feed.specs.declared.following.Change.TheVariants as change
use Rattle.spf_feed.specs.declared.step.Denial.{Denial}
use Rattle.spf_feed.specs.declared.turn.Terminal.{Terminal}
use Rattle.spf_feed.specs.Events.{map_item}
use Rattle.spf_feed.specs.Following.{answer_to}
use Rattle.spf_feed.specs.Run.{refusal_by}
use Rattle.spf_feed.proofs.TurnLemmas.{refusal-map_item}
use Rattle.spf_jwt.specs.Bundle.{set_eq}
use Rattle.spf_jwt_feed.specs.declared.record.JwtMetricsRecord.{JwtMetricsRecord}
use Rattle.spf_jwt_feed.specs.declared.record.JwtMetricsRecord.TheVariants as records
use Rattle.spf_jwt_feed.specs.declared.turn.Turn.{Turn}
use Rattle.spf_jwt_feed.specs.declared.turn.Turn.TheVariants as turns
use Rattle.spf_jwt_feed.specs.Items.{Event, Rules, subject, subject_by, item_in}
use Rattle.spf_jwt_feed.specs.Run.{stream, outputs, records_by, records_in, update_records}
use Rattle.spf_jwt_feed.specs.Steps.{BundleSet, PlainStep}
use Rattle.spf_jwt_feed.specs.Turns.{IsTurn}
use Rattle.spf_jwt_feed.specs.Following.{change_of, update_of, TurnState, WentThrough}
use Rattle.spf_jwt_feed.specs.Following.{StoppedShort, TurnTaken}
use Rattle.spf_jwt_feed.proofs.TurnLemmas.{outcome-map_item, records-map_item}

-- the turn is that of the event after the history
pub turn_at : (rules : Rules) (past : List Event) (now : Option ℤ)
    (kept : Option (Kept BundleSet Denial)) (e : Event) (turn : Turn)
    → IsAt (subject rules) past now kept
    → IsTurn (refusal_by rules.deadline (is_some kept) (map_item item_in e))
    (outcome_with (subject_by (λ i. i) rules.limits) (is_some kept) None (map_item item_in e))
    (records_by (λ i. i) (is_some kept) rules.limits (map_item item_in e)) turn
    → IsTurn ((stream rules).refusal past e) (outcome (subject rules) e past)
    (records_by item_in (has_synced (subject rules) past) rules.limits e) turn
turn_at rules past now kept e turn at h =
    let synced = synced_at (subject rules) past now kept at in
    let refusal : (stream rules).refusal past e
    ≡ refusal_by rules.deadline (is_some kept) (map_item item_in e) =
    ap (λ b. refusal_by rules.deadline b e) synced
    ∙ refusal-map_item item_in rules.deadline (is_some kept) e in
    let becomes : outcome (subject rules) e past
    ≡ outcome_with (subject_by (λ i. i) rules.limits) (is_some kept) None (map_item item_in e) =
    outcome_at (subject rules) past now kept e at
    ∙ outcome-map_item item_in rules.limits (is_some kept) now e in
    let recorded : records_by item_in (has_synced (subject rules) past) rules.limits e
    ≡ records_by (λ i. i) (is_some kept) rules.limits (map_item item_in e) =
    ap (λ b. records_by item_in b rules.limits e) synced
    ∙ records-map_item item_in (is_some kept) rules.limits e in
    subst (λ r.
    IsTurn r (outcome (subject rules) e past)
    (records_by item_in (has_synced (subject rules) past) rules.limits e) turn) (sym refusal)
    (subst (λ o.
    IsTurn (refusal_by rules.deadline (is_some kept) (map_item item_in e)) o
    (records_by item_in (has_synced (subject rules) past) rules.limits e) turn) (sym becomes)
    (subst (λ t.
    IsTurn (refusal_by rules.deadline (is_some kept) (map_item item_in e))
    (outcome_with (subject_by (λ i. i) rules.limits) (is_some kept) None (map_item item_in e)) t
    turn)
    (sym recorded) h))

-- ---- the records of an accepted item

update_is : (b : Bool)
    → cond (not b) [] (records.Update ∷ []) ≡ update_of (cond b change.Changed change.Unchanged)
update_is true = refl
update_is false = refl

update_shown : (k w : View BundleSet Denial) (m : BundleSet) → SeenAs set_eq k w
    → update_records w m ≡ cond (same_view set_eq w (Permitted m)) [] (records.Update ∷ [])
update_shown k Waiting m h = absurd (waits k h)
  where
    waits : (v : View BundleSet Denial) → SeenAs set_eq v Waiting → ⊥
    waits Waiting h = h
    waits (Withdrawn d) h = cc
    waits (Permitted x) h = let e : Waiting ≡ Permitted h.0 = h.1 in cc
update_shown k (Withdrawn d) m h = refl
update_shown k (Permitted x) m h = refl

update_at : (o : IsEquivalence set_eq) (rules : Rules) (past : List Event) (now : Option ℤ)
    (kept : Option (Kept BundleSet Denial)) (m : BundleSet) → IsAt (subject rules) past now kept
    → update_of (change_of kept (Accept m rules.limits))
    ≡ update_records (view_of (outcomes (subject rules) past)) m
update_at o rules past now None m at =
    ap (λ v. update_records v m) (sym (waiting_at (subject rules) past now at))
update_at o rules past now (Some k) m at =
    let seen = view_at (subject rules) o past now k at in
    sym (update_is (is_change set_eq k.view (Accept m rules.limits)))
    ∙ ap (λ b. cond b [] (records.Update ∷ []))
    (sym (update_seen set_eq o k.view (view_of (outcomes (subject rules) past)) m
    rules.limits seen))
    ∙ sym (update_shown k.view (view_of (outcomes (subject rules) past)) m seen)

-- ---- what was handed on

-- the step and the records of an event after a history
abbrev pub step_after : Rules → List Event → Event → Option PlainStep
step_after rules past e = step_in rules.limits (outcome (subject rules) e past)

-- the records, where this is what becomes of the event
records_by_outcome : Rules → List Event → Event → Outcome BundleSet Denial → List JwtMetricsRecord
records_by_outcome rules past e becomes =
    records_in item_in (has_synced (subject rules) past) rules.limits
    (view_of (outcomes (subject rules) past)) e becomes

-- a turn that went through
pub record IsThrough (rules : Rules) (past : List Event) (e : Event) (old new : TurnState)
    (b : Bool) : Type 0 where
  pub none : (stream rules).refusal past e ≡ None
  pub went : WentThrough (step_after rules past e) ((outputs rules).records past e) old new b

-- what is handed on is what the outcome gives
through : (rules : Rules) (past : List Event) (e : Event) (old new : TurnState) (b : Bool)
    (becomes : Outcome BundleSet Denial) → outcome (subject rules) e past ≡ becomes
    → (stream rules).refusal past e ≡ None
    → WentThrough (step_in rules.limits becomes) (records_by_outcome rules past e becomes) old new b
    → IsThrough rules past e old new b
unfolding records_by_outcome
through rules past e old new b becomes same none h = record {
  none = none;
  went = subst
      (λ x. WentThrough (step_in rules.limits x) (records_by_outcome rules past e x) old new b)
      (sym same) h;
}

pub went : (o : IsEquivalence set_eq) (rules : Rules) (past : List Event) (now : Option ℤ)
    (e : Event) (old new : TurnState) (b : Bool) (turn : Turn)
    → IsAt (subject rules) past now old.kept
    → IsTurn ((stream rules).refusal past e) (outcome (subject rules) e past)
    (records_by item_in (has_synced (subject rules) past) rules.limits e) turn
    → TurnTaken rules.limits turn old new (Ok b)
    → IsThrough rules past e old new b
unfolding records_by_outcome
went o rules past now e old new b (turns.Terminal end) at h taken = absurd cc
went o rules past now e old new b (turns.Accepted m) at h taken =
    through rules past e old new b (Accepted m) h.1 h.0
    (subst (λ l. WentThrough (Some (Accept m rules.limits)) l old new b)
    (update_at o rules past now old.kept m at) taken.1)
went o rules past now e old new b (turns.Denied reason records) at h taken =
    through rules past e old new b (Denied reason) h.1 h.0
    (subst (λ l. WentThrough (Some (Deny reason)) l old new b) h.2 taken.1)
went o rules past now e old new b (turns.Passed records) at h taken =
    through rules past e old new b Passed h.1 h.0
    (subst (λ l. WentThrough None l old new b) h.2 taken.1)

-- a turn that ended all: a refusal, with nothing handed on, or memory ran out
pub record IsRefused (rules : Rules) (past : List Event) (e : Event) (old new : TurnState)
    (x : FollowError) : Type 0 where
  pub end : Terminal
  pub refused : (stream rules).refusal past e ≡ Some end
  pub answer : x ≡ answer_to end
  pub steps_same : new.steps ≡ old.steps
  pub records_same : new.records ≡ old.records

pub record IsStopped (rules : Rules) (past : List Event) (e : Event) (old new : TurnState)
    (x : FollowError) : Type 0 where
  pub none : (stream rules).refusal past e ≡ None
  pub answer : x ≡ follow_errors.OutOfMemory
  pub short : StoppedShort (step_after rules past e) ((outputs rules).records past e) old new

stopped : (rules : Rules) (past : List Event) (e : Event) (old new : TurnState) (x : FollowError)
    (becomes : Outcome BundleSet Denial) → outcome (subject rules) e past ≡ becomes
    → (stream rules).refusal past e ≡ None → x ≡ follow_errors.OutOfMemory
    → StoppedShort (step_in rules.limits becomes) (records_by_outcome rules past e becomes) old new
    → IsStopped rules past e old new x
unfolding records_by_outcome
stopped rules past e old new x becomes same none is h = record {
  none = none;
  answer = is;
  short = subst
      (λ y. StoppedShort (step_in rules.limits y) (records_by_outcome rules past e y) old new)
      (sym same) h;
}

pub ended_by : (o : IsEquivalence set_eq) (rules : Rules) (past : List Event)
    (now : Option ℤ) (e : Event) (old new : TurnState) (x : FollowError) (turn : Turn)
    → IsAt (subject rules) past now old.kept
    → IsTurn ((stream rules).refusal past e) (outcome (subject rules) e past)
    (records_by item_in (has_synced (subject rules) past) rules.limits e) turn
    → TurnTaken rules.limits turn old new (Err x)
    → IsRefused rules past e old new x ⊎ IsStopped rules past e old new x
unfolding records_by_outcome
ended_by o rules past now e old new x (turns.Terminal end) at h taken =
    inl (record {
      end = end;
      refused = h;
      answer = cc;
      steps_same = taken.1;
      records_same = taken.2;
    })
ended_by o rules past now e old new x (turns.Accepted m) at h taken =
    inr (stopped rules past e old new x (Accepted m) h.1 h.0 taken.0
    (subst (λ l. StoppedShort (Some (Accept m rules.limits)) l old new)
    (update_at o rules past now old.kept m at) taken.1))
ended_by o rules past now e old new x (turns.Denied reason records) at h taken =
    inr (stopped rules past e old new x (Denied reason) h.1 h.0 taken.0
    (subst (λ l. StoppedShort (Some (Deny reason)) l old new) h.2 taken.1))
ended_by o rules past now e old new x (turns.Passed records) at h taken =
    inr (stopped rules past e old new x Passed h.1 h.0 taken.0
    (subst (λ l. StoppedShort None l old new) h.2 taken.1))
