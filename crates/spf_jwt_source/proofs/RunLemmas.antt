-- What one more event does to what is kept of a run.
use Rattle.std.proofs.Common.{◌≡◌, Bool, List, ◌∷◌, reverse, Option, Ok, Err}
use Rattle.std.proofs.Common.{refl, sym, ◌∙◌, subst}
use Rattle.std.specs.Prelude.{is_some, IsTrue}
use Rattle.std.specs.Option.{option_or}
use Rattle.spf_view.specs.Views.{outcome}
use Rattle.spf_view.specs.Standing.{Kept}
use Rattle.spf_view.proofs.KeepingLemmas.{synced_at}
use Rattle.spf_feed.specs.declared.phase.Phase.{Phase}
use Rattle.spf_feed.specs.declared.step.Denial.{Denial}
use Rattle.spf_feed.specs.Events.{map_item}
use Rattle.spf_feed.specs.Handing.{changes_any}
use Rattle.spf_feed.specs.Items.{moment_of}
use Rattle.spf_feeder.specs.declared.session.Stop.{Stop}
use Rattle.spf_feeder.specs.Kept.{PublishedBy, WentBy}
use Rattle.spf_feeder.specs.Taking.{AdvancedBy, TakesNone}
use Rattle.spf_feeder.proofs.RunLemmas.{advanced_with, at_none, at_turn, ends_in, refused_with}
use Rattle.spf_feeder.proofs.RunLemmas.{step_of_turn, turn_done, went_through}
use Rattle.spf_jwt.specs.Bundle.{set_eq}
use Rattle.spf_jwt.specs.Laws.{set_equiv}
use Rattle.spf_jwt_feed.specs.declared.record.JwtMetricsRecord.{JwtMetricsRecord}
use Rattle.spf_jwt_feed.specs.declared.record.JwtMetricsRecord.TheVariants as jwt_records
use Rattle.spf_jwt_feed.specs.declared.turn.Records.{Records}
use Rattle.spf_jwt_feed.specs.declared.turn.Turn.{Turn}
use Rattle.spf_jwt_feed.specs.declared.turn.Turn.TheVariants as turns
use Rattle.spf_jwt_feed.specs.Following.{TurnTaken}
use Rattle.spf_jwt_feed.specs.Items.{Event, Received, Rules, item_in, subject}
use Rattle.spf_jwt_feed.specs.Received.{received_ask, received_outcome}
use Rattle.spf_jwt_feed.specs.Received.{received_records, received_refusal}
use Rattle.spf_jwt_feed.specs.Run.{ask_of, asked_by, stream}
use Rattle.spf_jwt_feed.specs.Steps.{BundleSet, HasStep, PlainStep}
use Rattle.spf_jwt_feed.specs.Turns.{IsTurn, listed}
use Rattle.spf_jwt_feed.proofs.Turned.{turn_at, went}
use Rattle.spf_jwt_feed.proofs.TurnLemmas.{asked-map_item}
use Rattle.spf_jwt_source.specs.declared.session.Foreseen.{Foreseen}
use Rattle.spf_jwt_source.specs.declared.session.Place.{Place}
use Rattle.spf_jwt_source.specs.Kept.{Going, PublishesTurn, accepts, turn_in}
use Rattle.spf_jwt_source.specs.Kinds.{jwt}
use Rattle.spf_jwt_source.specs.Taking.{Foresees}

-- the turn of an event as it is received
abbrev pub TurnOf : Rules → Bool → Received → Turn → Type 0
TurnOf rules synced received turn =
    IsTurn (received_refusal rules.deadline synced received)
    (received_outcome rules.limits synced received) (received_records synced rules.limits received)
    turn

taken : (rules : Rules) (turn : Turn) (kept kept' : Option (Kept BundleSet Denial))
    (steps steps' : Option (List PlainStep)) (records : List JwtMetricsRecord)
    → WentBy set_eq jwt_records.Update rules.limits (turn_in turn) kept steps records kept' steps'
    → TurnTaken rules.limits turn (at_none kept)
    (at_turn kept' (step_of_turn rules.limits (turn_in turn)) records)
    (Ok (changes_any set_eq kept (step_of_turn rules.limits (turn_in turn))))
taken rules (turns.Terminal end) kept kept' steps steps' records w = absurd w
taken rules (turns.Accepted set) kept kept' steps steps' records w =
    (tt, went_through set_eq _ _ kept steps records kept' steps' w)
taken rules (turns.Denied reason list) kept kept' steps steps' records w =
    (tt, went_through set_eq _ _ kept steps records kept' steps' w)
taken rules (turns.Passed list) kept kept' steps steps' records w =
    (tt, went_through set_eq _ _ kept steps records kept' steps' w)

pub advanced_by : (rules : Rules) (run : List Event) (e : Event) (synced : Bool) (place : Place)
    (seen : Foreseen) (kept kept' : Option (Kept BundleSet Denial))
    (steps steps' : Option (List PlainStep)) (records : Records) → synced ≡ is_some kept
    → Foresees rules synced place e seen
    → PublishesTurn rules.limits seen.turn kept steps (Ok records) kept' steps'
    → (IsTrue (is_some kept') → HasStep steps') → PublishedBy (subject rules) steps run
    → Going rules run steps kept place.phase place.gave_accepted
    → AdvancedBy (jwt rules)
    (λ r. Going rules r steps' kept' seen.place.phase seen.place.gave_accepted) run e steps'
    (listed records) seen.end
advanced_by rules run e synced place seen kept kept' steps steps' records is h w step p
    ((moment, g), has) =
    let past = reverse run in
    let at = subst (λ b. Foresees rules b place e seen) is h in
    let turn = turn_at rules past moment kept e seen.turn g.at at.turn in
    let through = went set_equiv rules past moment e (at_none kept)
    (at_turn kept' (step_of_turn rules.limits (turn_in seen.turn)) (listed records)) _ seen.turn
    g.at turn (taken rules seen.turn kept kept' steps steps' (listed records) w) in
    let done = turn_done (jwt rules) jwt_records.Update run e (turn_in seen.turn) kept kept' steps
    steps' (listed records) _ through.none through.went w in
    let asks : ask_of item_in rules (e ∷ past)
    ≡ received_ask place.phase (is_some kept) (map_item item_in e) =
    (λ i. asked_by item_in (g.asks i) (synced_at (subject rules) past moment kept g.at i) e)
    ∙ asked-map_item item_in place.phase (is_some kept) e in
    advanced_with (jwt rules) set_equiv
    (λ r. Going rules r steps' kept' seen.place.phase seen.place.gave_accepted) item_in run e
    (accepts seen.turn) kept kept' steps steps' (listed records) moment
    (option_or (moment_of e) moment) _ place.phase seen.place.phase place.gave_accepted
    seen.place.gave_accepted seen.end done g at.leaves refl asks p
    (λ goes. ((option_or (moment_of e) moment, goes), step))

ends_by : (rules : Rules) (past : List Event) (e : Event) (list : List JwtMetricsRecord)
    (turn : Turn)
    → IsTurn ((stream rules).refusal past e) (outcome (subject rules) e past) list turn
    → (stream rules).refusal past e ≡ ends_in (turn_in turn)
ends_by rules past e list (turns.Terminal end) h = h
ends_by rules past e list (turns.Accepted set) h = h.0
ends_by rules past e list (turns.Denied reason records) h = h.0
ends_by rules past e list (turns.Passed records) h = h.0

pub refused_by : (rules : Rules) (run : List Event) (e : Event) (synced : Bool)
    (place : Place) (seen : Foreseen) (kept kept' : Option (Kept BundleSet Denial))
    (steps steps' : Option (List PlainStep)) (stop : Stop) → synced ≡ is_some kept
    → Foresees rules synced place e seen
    → PublishesTurn rules.limits seen.turn kept steps (Err stop) kept' steps'
    → Going rules run steps kept place.phase place.gave_accepted
    → TakesNone (jwt rules) run e stop
refused_by rules run e synced place seen kept kept' steps steps' stop is h p
    ((moment, g), has) =
    let at = subst (λ b. Foresees rules b place e seen) is h in
    refused_with (jwt rules) jwt_records.Update listed run e (turn_in seen.turn) kept kept' steps
    steps' stop
    (ends_by rules (reverse run) e _ seen.turn
    (turn_at rules (reverse run) moment kept e seen.turn g.at at.turn)) p

pub going_at : (rules : Rules) (run run' : List Event) (steps : Option (List PlainStep))
    (kept : Option (Kept BundleSet Denial)) (phase : Phase) (gave : Bool) → run' ≡ run
    → Going rules run steps kept phase gave → Going rules run' steps kept phase gave
going_at rules run run' steps kept phase gave same g =
    subst (λ l. Going rules l steps kept phase gave) (sym same) g
