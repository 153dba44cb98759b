-- What is kept of a run: its events, oldest first, what it published, and where it stands.
use Rattle.std.specs.Prelude.{ℤ, Bool, IsTrue, is_some, List, Option, Result}
use Rattle.spf_view.specs.Standing.{Kept}
use Rattle.spf_feed.specs.declared.phase.Phase.{Phase}
use Rattle.spf_feed.specs.declared.step.Denial.{Denial}
use Rattle.spf_feeder.specs.declared.session.Stop.{Stop}
use Rattle.spf_feeder.specs.Kept.{Accepts, Denies, GoingBy, Passes, PlainTurn}
use Rattle.spf_feeder.specs.Kept.{PublishedBy, PublishesBy, Terminates, accepts_in}
use Rattle.spf_jwt.specs.Bundle.{set_eq}
use Rattle.spf_jwt.specs.declared.limits.JwtResourceLimits.{JwtResourceLimits}
use Rattle.spf_jwt_feed.specs.declared.record.JwtMetricsRecord.{JwtMetricsRecord}
use Rattle.spf_jwt_feed.specs.declared.record.JwtMetricsRecord.TheVariants as jwt_records
use Rattle.spf_jwt_feed.specs.declared.turn.Records.{Records}
use Rattle.spf_jwt_feed.specs.declared.turn.Turn.{Turn}
use Rattle.spf_jwt_feed.specs.declared.turn.Turn.TheVariants as turns
use Rattle.spf_jwt_feed.specs.Items.{Event, Rules, subject}
use Rattle.spf_jwt_feed.specs.Steps.{BundleSet, HasStep, PlainStep}
use Rattle.spf_jwt_feed.specs.Turns.{listed}
use Rattle.spf_jwt_source.specs.Kinds.{jwt}

abbrev pub Published : Option (List PlainStep) → Rules → List Event → Type 0
Published steps rules run = PublishedBy (subject rules) steps run

-- The last moment makes no difference to what is accepted, so it is not kept.
abbrev pub Going : Rules → List Event → Option (List PlainStep) → Option (Kept BundleSet Denial)
    → Phase → Bool → Type 0
Going rules run steps kept phase gave =
    ((moment : Option ℤ) × GoingBy (jwt rules) run kept moment phase gave)
    × (IsTrue (is_some kept) → HasStep steps)

abbrev pub turn_in : Turn → PlainTurn BundleSet JwtMetricsRecord
turn_in (turns.Terminal end) = Terminates end
turn_in (turns.Accepted set) = Accepts set
turn_in (turns.Denied reason records) = Denies reason (listed records)
turn_in (turns.Passed records) = Passes (listed records)

abbrev pub PublishesTurn : JwtResourceLimits → Turn → Option (Kept BundleSet Denial)
    → Option (List PlainStep) → Result Records Stop → Option (Kept BundleSet Denial)
    → Option (List PlainStep) → Type 0
PublishesTurn limits turn kept old r kept' new =
    PublishesBy set_eq jwt_records.Update listed limits (turn_in turn) kept old r kept' new

abbrev pub accepts : Turn → Bool
accepts turn = accepts_in (turn_in turn)
