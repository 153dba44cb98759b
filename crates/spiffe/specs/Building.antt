-- What a builder makes of a source, and why it fails.
use Rattle.std.specs.Prelude.{◌≡◌, ◌⊎◌, ℕ, ℤ, List, Option, None, Some, Ok, Err}
use Rattle.std.specs.Prelude.{if◌then◌else◌}
use Rattle.std.specs.Duration.{as_nanos}
use Rattle.std.specs.Option.{option_map}
use Rattle.spf_api.specs.declared.endpoint_error.EndpointError.{EndpointError}
use Rattle.spf_api.specs.declared.error.WorkloadApiError.TheVariants as api
use Rattle.spf_io.specs.Outside.{Rose}
use Rattle.spf_link.specs.Endpoint.{is_memory}
use Rattle.spf_link.specs.Connecting.{Member}
use Rattle.spf_system.specs.Bounds.{IsDefault as HasDefaultBounds}
use Rattle.spf_x509.specs.Svid.{Svid}
use Rattle.spiffe.specs.Passes.{PassView}
use Rattle.spf_feed.specs.Limits.{default_limits}
use Rattle.spf_feed.specs.declared.ready.Ready.TheVariants as readiness
use Rattle.spf_feed.specs.declared.state.X509SourceError.{X509SourceError}
use Rattle.spf_feed.specs.declared.state.X509SourceError.TheVariants as errors
use Rattle.spf_feed.specs.declared.turn.Terminal.{Terminal}
use Rattle.spf_feed.specs.declared.turn.Terminal.TheVariants as terminal
use Rattle.spf_feeder.specs.declared.session.Stop.{Stop}
use Rattle.spf_feeder.specs.declared.session.Stop.TheVariants as stops
use Rattle.spf_feed.specs.Items.{rules_with}
use Rattle.spf_feeder.specs.declared.x509_rules.X509Rules.{X509Rules}
use Rattle.spf_feeder.specs.Governed.{kind_by}
use Rattle.spf_feeder.specs.Kinds.{x509}
use Rattle.spf_feeder.specs.Opened.{HasDeadline, Meeting, StopsOpening, meeting}
use Rattle.spiffe.specs.declared.builder.Settings.{Settings}
use Rattle.spiffe.specs.Records.{Assigned}
use Rattle.spf_board.specs.Sources.{Source}
use Rattle.spf_feeder.specs.Building.{IsAssignedBy, IsBuiltBy}

-- the settings of a builder on which nothing was set
pub record IsDefault {K : Type 0} (set : Settings K) : Type 0 where
  pub picker : set.picker ≡ None
  pub bounds : HasDefaultBounds set.bounds
  pub limits : set.limits ≡ default_limits
  pub ready : set.ready ≡ readiness.Usable
  pub timeout : set.timeout ≡ None
  pub grace : option_map as_nanos set.grace ≡ Some 30_000_000_000

-- the error of a refused endpoint
abbrev pub refused_as : EndpointError → X509SourceError
refused_as e = if is_memory e then errors.OutOfMemory else errors.Source (api.Endpoint e)

-- the error of a stop
abbrev pub stopped_as : Stop → X509SourceError
stopped_as (stops.Terminal (terminal.Source e)) = errors.Source e
stopped_as (stops.Terminal (terminal.UnsupportedRpc e)) = errors.UnsupportedRpc e
stopped_as (stops.Terminal terminal.InitialSyncTimeout) = errors.InitialSyncTimeout
stopped_as (stops.Terminal terminal.Closed) = errors.OutOfMemory
stopped_as stops.OutOfMemory = errors.OutOfMemory

-- the rules are those of the builder, and the deadline is that of some first moment
pub record IsSetBy {K : Type 0} (set : Settings K) (rules : X509Rules K) : Type 0 where
  pub limits : rules.settings.limits ≡ set.limits
  pub ready : rules.settings.ready ≡ set.ready
  pub deadline : HasDeadline set.timeout rules.settings.deadline
  pub picker : rules.picker ≡ set.picker

-- the initial synchronisation may stop so
abbrev pub StopsBy : {K : Type 0} → (K → List Svid → Option ℕ) → Settings K → Meeting → Stop
    → Type 0
StopsBy picks set met stop =
    StopsOpening
    (λ deadline. x509 (rules_with set.limits deadline set.ready (option_map picks set.picker)))
    set.timeout met.members met.clock met.clock_after stop

-- the same with a terminal event, where the endpoint is valid
abbrev pub Stops : {K : Type 0} → (K → List Svid → Option ℕ) → Settings K → Meeting → Terminal
    → Type 0
Stops picks set met end = (met.valid ≡ Ok tt) × StopsBy picks set met (stops.Terminal end)

-- Why an initial synchronisation gives an error: the endpoint is invalid, a terminal event came by
-- the connector or the clock before anything was accepted, or memory ran out.
abbrev pub SyncFails : {K : Type 0} → (K → List Svid → Option ℕ) → Settings K → Meeting
    → X509SourceError → Type 0
SyncFails picks set met (errors.Source e) =
    ((x : EndpointError) × (met.valid ≡ Err x) × (e ≡ api.Endpoint x))
    ⊎ Stops picks set met (terminal.Source e)
SyncFails picks set met (errors.UnsupportedRpc e) =
    Stops picks set met (terminal.UnsupportedRpc e)
SyncFails picks set met errors.InitialSyncTimeout =
    Stops picks set met terminal.InitialSyncTimeout
SyncFails picks set met errors.OutOfMemory = Unit {0}
SyncFails picks set met _ = ⊥

-- The same, which may also find no place for the pass.
abbrev pub PrepareFails : {K : Type 0} → (K → List Svid → Option ℕ) → Settings K → Meeting → ℕ → ℕ
    → X509SourceError → Type 0
PrepareFails picks set met before now errors.NoPlace = (met.valid ≡ Ok tt) × Rose before now
PrepareFails picks set met before now e = SyncFails picks set met e

-- the same, which may find no supervisor after that
abbrev pub BuildFails : {K : Type 0} → (K → List Svid → Option ℕ) → Settings K → Meeting → ℕ → ℕ
    → ℕ → ℕ → X509SourceError → Type 0
BuildFails picks set met before now started starts errors.NoSupervisor =
    (met.valid ≡ Ok tt) × Rose started starts
BuildFails picks set met before now started starts e = PrepareFails picks set met before now e

-- what an initial synchronisation leaves to a supervisor
abbrev pub IsAssigned : {S K : Type 0} → (S → Option (List Member)) → (K → List Svid → Option ℕ)
    → Settings K → S → Option (List (Option ℤ)) → Option (List (Option ℤ)) → Assigned S K → Type 0
IsAssigned members picks set connector clock clock' job =
    IsAssignedBy members (kind_by picks) (IsSetBy set) set.bounds connector clock clock' job

-- a source, its first pass, what closes it, and the job of its supervisor
abbrev pub IsBuilt : {S K : Type 0} → (K → List Svid → Option ℕ) → Source → PassView → ℕ
    → Assigned S K → Type 0
IsBuilt picks source pass closing job = IsBuiltBy (kind_by picks) source pass closing job

-- ---- by a builder on which nothing was set

-- what such a builder leaves to the supervisor, where it is not known what its connector will give
abbrev pub IsAssignedByDefault : {S K : Type 0} → (S → Type 0) → (K → List Svid → Option ℕ)
    → Option (List (Option ℤ)) → Option (List (Option ℤ)) → Assigned S K → Type 0
IsAssignedByDefault {S} {K} is_connector picks clock clock' job =
    (set : Settings K) × (connector : S) × IsDefault set × is_connector connector
    × IsAssigned (λ _. None) picks set connector clock clock' job

abbrev pub FailsByDefault : {K : Type 0} → (K → List Svid → Option ℕ) → Option (List (Option ℤ))
    → Option (List (Option ℤ)) → ℕ → ℕ → ℕ → ℕ → X509SourceError → Type 0
FailsByDefault {K} picks clock clock' before now started starts e =
    (set : Settings K) × IsDefault set
    × BuildFails picks set (meeting (Ok tt) None clock clock') before now started starts e
