-- What a live run of the gate does, and why it fails.
use Rattle.std.specs.Prelude.{◌≡◌, ℕ, false, true, List, map, reverse, Option, None, IfSome}
use Rattle.std.specs.Prelude.{Result, Ok, Err, IfErr}
use mathlib.Core.List.{IsPrefix}
use Rattle.spf_api.specs.declared.endpoint_error.EndpointError.{EndpointError}
use Rattle.spf_api.specs.declared.error.WorkloadApiError.{WorkloadApiError}
use Rattle.spf_board.specs.Lists.{is_ended, steps_of}
use Rattle.spf_link.specs.Connecting.{Member}
use Rattle.spf_program.specs.Reports.{IsEndReported}
use Rattle.spf_program.specs.Streams.{Side}
use Rattle.spf_x509.specs.Svid.{Svid}
use Rattle.spf_feed.specs.Limits.{default_limits}
use Rattle.spf_feed.specs.Steps.{plain}
use Rattle.spf_feed.specs.declared.ready.Ready.TheVariants as readiness
use Rattle.spf_feed.specs.declared.state.X509SourceError.{X509SourceError}
use Rattle.spf_feed.specs.declared.state.X509SourceError.TheVariants as source
use Rattle.spf_feeder.specs.Coming.{AllYielded}
use Rattle.spf_feeder.specs.Governed.{rules_by}
use Rattle.spf_feeder.specs.Opened.{meeting}
use Rattle.spiffe.specs.declared.builder.Settings.{Settings}
use Rattle.spiffe.specs.Building.{IsDefault, SyncFails}
use Rattle.spiffe.specs.Records.{IsRecord, Recorded}
use Rattle.spf_gate.specs.declared.gate_error.GateError.{GateError}
use Rattle.spf_gate.specs.declared.gate_error.GateError.TheVariants as gate
use Rattle.spf_gate.specs.Serving.{Serves, ServesPart, cuts}
use Rattle.spf_live.specs.Printing.{Moments}
use Rattle.spiffe.specs.Passes.{PassView, Seen}
use Rattle.spf_gate_live.specs.Ends.{end_status, error_line}
use Rattle.spf_gate_live.specs.declared.live_error.LiveGateError.{LiveGateError}
use Rattle.spf_gate_live.specs.declared.live_error.LiveGateError.TheVariants as errors

-- the maximum number of lines of an input
abbrev pub max_lines : ℕ
max_lines = 1_000_000

-- ---- what a run does

-- The record of a run over the defaults: its steps are all that was published, and its events are
-- what the connector yielded, where that is known.
pub record IsRecordOf {K : Type 0} (members : Option (List Member))
    (picks : K → List Svid → Option ℕ) (published : Seen) (r : Recorded K) : Type 0 where
  pub kept : IsRecord picks r
  pub limits : r.rules.settings.limits ≡ default_limits
  pub ready : r.rules.settings.ready ≡ readiness.Usable
  pub picker : r.rules.picker ≡ None
  pub yielded : IfSome members (λ m. AllYielded (rules_by picks r.rules) m (reverse
      r.run))
  pub steps_are : map plain r.steps ≡ steps_of published
  pub ended : is_ended published ≡ true

-- All asks were answered, each from what was read of a beginning of what was published.
pub record AnswersAll {K : Type 0} (members : Option (List Member))
    (picks : K → List Svid → Option ℕ) (left left' held held' : Option (List ℕ)) : Type 0 where
  pub first : PassView
  pub last : PassView
  pub count : ℕ
  pub serves : Serves max_lines left left' first last held held' (Ok count)
  pub published : Seen
  pub begins : IsPrefix last.seen published
  pub found : Recorded K
  pub is_record : IsRecordOf members picks published found

-- The asks before an error were answered. Where it is one that cuts the answers, what was written
-- is a beginning of those to the first asks.
abbrev pub AnswersUntil : Option (List ℕ) → Option (List ℕ) → Option (List ℕ) → Option (List ℕ)
    → GateError → Type 0
AnswersUntil left left' held held' e =
    (first : PassView) × (last : PassView)
    × (cuts e ≡ false → Serves max_lines left left' first last held held' (Err e))
    × (cuts e ≡ true → ServesPart max_lines left first last held held' e)

-- what a run does, by its end: without a source nothing is read or written
abbrev pub Runs : {K : Type 0} → Option (List Member) → (K → List Svid → Option ℕ)
    → Option (List ℕ) → Option (List ℕ) → Option (List ℕ) → Option (List ℕ)
    → Result (Unit {0}) LiveGateError → Type 0
Runs members picks left left' held held' (Ok done) =
    AnswersAll members picks left left' held held'
Runs members picks left left' held held' (Err (errors.Gate e)) =
    AnswersUntil left left' held held' e
Runs members picks left left' held held' (Err _) = (left' ≡ left) × (held' ≡ held)

-- ---- why a run fails

-- The initial synchronisation over the defaults gives this error, by the moments of some clock:
-- without a deadline they decide nothing.
abbrev pub SyncFailsBy : {K : Type 0} → Option (List Member) → (K → List Svid → Option ℕ)
    → Result (Unit {0}) EndpointError → X509SourceError → Type 0
SyncFailsBy {K} members picks valid e =
    (set : Settings K) × (clock : Moments) × (clock' : Moments) × IsDefault set
    × SyncFails picks set (meeting valid members clock clock') e

-- Why a run fails, by what the refusal of a supervisor and of a place, and a failure of the input
-- and of the output come from. The other errors of answering come from the input's bytes, as `Runs`
-- says.
abbrev pub FailsBy : {K : Type 0} → Option (List Member) → (K → List Svid → Option ℕ)
    → Result (Unit {0}) EndpointError → Type 0 → Type 0 → Type 0 → Type 0 → LiveGateError → Type 0
FailsBy members picks valid supervisor place input output errors.BadArguments = Unit {0}
FailsBy members picks valid supervisor place input output (errors.Gate gate.ReadFault) = input
FailsBy members picks valid supervisor place input output (errors.Gate gate.WriteFault) = output
FailsBy members picks valid supervisor place input output (errors.Gate e) = Unit {0}
FailsBy members picks valid supervisor place input output errors.Rejected =
    (e : WorkloadApiError) × SyncFailsBy members picks valid (source.Source e)
FailsBy members picks valid supervisor place input output errors.Unsupported =
    (e : WorkloadApiError) × SyncFailsBy members picks valid (source.UnsupportedRpc e)
FailsBy members picks valid supervisor place input output errors.NoSupervisor = supervisor
FailsBy members picks valid supervisor place input output errors.NoPlace = place

-- ---- the whole

-- A run did this, ended with this status, and reported it.
pub record Ended {K : Type 0} (members : Option (List Member)) (picks : K → List Svid → Option ℕ)
    (valid : Result (Unit {0}) EndpointError) (supervisor place input output : Type 0)
    (left left' held held' : Option (List ℕ)) (before after : Side) (status : ℕ) : Type 0 where
  pub end : Result (Unit {0}) LiveGateError
  pub runs : Runs members picks left left' held held' end
  pub cause : IfErr end (FailsBy members picks valid supervisor place input output)
  pub status_is : status ≡ end_status end
  pub reported : IsEndReported error_line before after end
