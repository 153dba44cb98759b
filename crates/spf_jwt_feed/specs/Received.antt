-- An event as it is received, whose item is read.
use Rattle.std.specs.Prelude.{ℤ, Bool, List, Option, None}
use Rattle.spf_view.specs.Views.{Outcome, outcome_with}
use Rattle.spf_jwt.specs.declared.limits.JwtResourceLimits.{JwtResourceLimits}
use Rattle.spf_feed.specs.declared.event.SessionEvent.TheVariants as events
use Rattle.spf_feed.specs.declared.phase.Phase.{Phase}
use Rattle.spf_feed.specs.declared.step.Denial.{Denial}
use Rattle.spf_feed.specs.declared.turn.Terminal.{Terminal}
use Rattle.spf_feed.specs.Events.{closes}
use Rattle.spf_feed.specs.Run.{refusal_by}
use Rattle.spf_jwt_feed.specs.declared.event.JwtItem.{JwtItem}
use Rattle.spf_jwt_feed.specs.declared.record.JwtMetricsRecord.{JwtMetricsRecord}
use Rattle.spf_jwt_feed.specs.Items.{Received, subject_by}
use Rattle.spf_jwt_feed.specs.Run.{asked_by, records_by}
use Rattle.spf_jwt_feed.specs.Steps.{BundleSet}

abbrev pub received_ask : Phase → Bool → Received → Phase
received_ask phase synced e = asked_by (λ i. i) phase synced e

abbrev pub received_refusal : Option ℤ → Bool → Received → Option Terminal
received_refusal deadline synced e = refusal_by deadline synced e

-- no moment is needed
abbrev pub received_outcome : JwtResourceLimits → Bool → Received → Outcome BundleSet Denial
received_outcome limits synced e = outcome_with (subject_by (λ i. i) limits) synced None e

-- the same of an item, where an item was accepted before it or not
abbrev pub item_outcome : JwtResourceLimits → Bool → JwtItem → Outcome BundleSet Denial
item_outcome limits synced i = received_outcome limits synced (events.Item i)

abbrev pub received_records : Bool → JwtResourceLimits → Received → List JwtMetricsRecord
received_records synced limits e = records_by (λ i. i) synced limits e

abbrev pub received_close : Received → Bool
received_close e = closes e
