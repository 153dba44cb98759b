-- An event as it is received, whose item is read down to its context.
use Rattle.std.specs.Prelude.{ℤ, Bool, List, Option}
use Rattle.spf_view.specs.Views.{Outcome, outcome_with}
use Rattle.spf_feed.specs.declared.phase.Phase.{Phase}
use Rattle.spf_feed.specs.declared.limits.ResourceLimits.{ResourceLimits}
use Rattle.spf_feed.specs.declared.record.MetricsRecord.{MetricsRecord}
use Rattle.spf_feed.specs.declared.step.Denial.{Denial}
use Rattle.spf_feed.specs.declared.turn.Terminal.{Terminal}
use Rattle.spf_feed.specs.Events.{closes}
use Rattle.spf_feed.specs.Items.{Received, Rules, subject_by, moment_of}
use Rattle.spf_feed.specs.Run.{asked_by, refusal_by, records_by}
use Rattle.spf_feed.specs.Steps.{Material}

abbrev pub received_ask : Phase → Bool → Received → Phase
received_ask phase synced e = asked_by (λ o. o) phase synced e

abbrev pub received_refusal : Option ℤ → Bool → Received → Option Terminal
received_refusal deadline synced e = refusal_by deadline synced e

abbrev pub received_outcome : Rules → Bool → Option ℤ → Received → Outcome Material Denial
received_outcome rules synced now e = outcome_with (subject_by (λ o. o) rules) synced now e

abbrev pub received_records : Bool → ResourceLimits → Received → List MetricsRecord
received_records synced limits e = records_by (λ o. o) synced limits e

abbrev pub received_moment : Received → Option ℤ
received_moment e = moment_of e

abbrev pub received_close : Received → Bool
received_close e = closes e
