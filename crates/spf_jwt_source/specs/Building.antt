-- What a builder makes of a source, and why it fails.
use Rattle.std.specs.Prelude.{◌≡◌, ◌⊎◌, ℕ, ℤ, List, Option, None, Some, Ok, Err}
use Rattle.std.specs.Prelude.{if◌then◌else◌}
use Rattle.std.specs.Duration.{as_nanos}
use Rattle.std.specs.Option.{option_map}
use Rattle.spf_api.specs.declared.endpoint_error.EndpointError.{EndpointError}
use Rattle.spf_api.specs.declared.error.WorkloadApiError.TheVariants as api
use Rattle.spf_io.specs.Outside.{Rose}
use Rattle.spf_link.specs.Endpoint.{is_memory}
use Rattle.spf_link.specs.Connecting.{Member}
use Rattle.spf_system.specs.Bounds.{IsDefault as HasDefaultBounds}
use Rattle.spf_feed.specs.declared.turn.Terminal.{Terminal}
use Rattle.spf_feed.specs.declared.turn.Terminal.TheVariants as terminal
use Rattle.spf_feeder.specs.declared.session.Stop.{Stop}
use Rattle.spf_feeder.specs.declared.session.Stop.TheVariants as stops
use Rattle.spf_feeder.specs.Opened.{HasDeadline, Meeting, StopsOpening, meeting}
use Rattle.spf_jwt.specs.Limits.{default_limits}
use Rattle.spf_jwt_feed.specs.declared.state.JwtSourceError.{JwtSourceError}
use Rattle.spf_jwt_feed.specs.declared.state.JwtSourceError.TheVariants as errors
use Rattle.spf_jwt_source.specs.Passes.{PassView}
use Rattle.spf_jwt_source.specs.declared.rules.JwtRules.{JwtRules}
use Rattle.spf_jwt_source.specs.Governed.{kind_of}
use Rattle.spf_jwt_source.specs.Kinds.{jwt}
use Rattle.spf_board.specs.Sources.{Source}
use Rattle.spf_feeder.specs.Building.{IsAssignedBy, IsBuiltBy}
use Rattle.spf_jwt_source.specs.declared.builder.JwtSettings.{JwtSettings}
use Rattle.spf_jwt_source.specs.Records.{Assigned}

-- the settings of a builder on which nothing was set
pub record IsDefault (set : JwtSettings) : Type 0 where
  pub bounds : HasDefaultBounds set.bounds
  pub limits : set.limits ≡ default_limits
  pub timeout : set.timeout ≡ None
  pub grace : option_map as_nanos set.grace ≡ Some 30_000_000_000

-- the error of a refused endpoint
abbrev pub refused_as : EndpointError → JwtSourceError
refused_as e = if is_memory e then errors.OutOfMemory else errors.Source (api.Endpoint e)

-- the error of a stop
abbrev pub stopped_as : Stop → JwtSourceError
stopped_as (stops.Terminal (terminal.Source e)) = errors.Source e
stopped_as (stops.Terminal (terminal.UnsupportedRpc e)) = errors.UnsupportedRpc e
stopped_as (stops.Terminal terminal.InitialSyncTimeout) = errors.InitialSyncTimeout
stopped_as (stops.Terminal terminal.Closed) = errors.OutOfMemory
stopped_as stops.OutOfMemory = errors.OutOfMemory

-- the rules are those of the builder, and the deadline is that of some first moment
pub record IsSetBy (set : JwtSettings) (rules : JwtRules) : Type 0 where
  pub limits : rules.limits ≡ set.limits
  pub deadline : HasDeadline set.timeout rules.deadline

-- the initial synchronisation may stop so
abbrev pub StopsBy : JwtSettings → Meeting → Stop → Type 0
StopsBy set met stop =
    StopsOpening (λ deadline. jwt (record { limits = set.limits; deadline = deadline })) set.timeout
    met.members met.clock met.clock_after stop

-- the same with a terminal event, where the endpoint is valid
abbrev pub Stops : JwtSettings → Meeting → Terminal → Type 0
Stops set met end = (met.valid ≡ Ok tt) × StopsBy set met (stops.Terminal end)

-- Why an initial synchronisation gives an error: the endpoint is invalid, a terminal event came by
-- the connector or the clock before anything was accepted, or memory ran out.
abbrev pub SyncFails : JwtSettings → Meeting → JwtSourceError → Type 0
SyncFails set met (errors.Source e) =
    ((x : EndpointError) × (met.valid ≡ Err x) × (e ≡ api.Endpoint x))
    ⊎ Stops set met (terminal.Source e)
SyncFails set met (errors.UnsupportedRpc e) = Stops set met (terminal.UnsupportedRpc e)
SyncFails set met errors.InitialSyncTimeout = Stops set met terminal.InitialSyncTimeout
SyncFails set met errors.OutOfMemory = Unit {0}
SyncFails set met _ = ⊥

-- The same, which may also find no place for the pass.
abbrev pub PrepareFails : JwtSettings → Meeting → ℕ → ℕ → JwtSourceError → Type 0
PrepareFails set met before now errors.NoPlace = (met.valid ≡ Ok tt) × Rose before now
PrepareFails set met before now e = SyncFails set met e

-- the same, which may find no supervisor after that
abbrev pub BuildFails : JwtSettings → Meeting → ℕ → ℕ → ℕ → ℕ → JwtSourceError → Type 0
BuildFails set met before now started starts errors.NoSupervisor =
    (met.valid ≡ Ok tt) × Rose started starts
BuildFails set met before now started starts e = PrepareFails set met before now e

-- what an initial synchronisation leaves to a supervisor
abbrev pub IsAssigned : {S : Type 0} → (S → Option (List Member)) → JwtSettings → S
    → Option (List (Option ℤ)) → Option (List (Option ℤ)) → Assigned S → Type 0
IsAssigned members set connector clock clock' job =
    IsAssignedBy members kind_of (IsSetBy set) set.bounds connector clock clock' job

-- a source, its first pass, what closes it, and the job of its supervisor
abbrev pub IsBuilt : {S : Type 0} → Source → PassView → ℕ → Assigned S → Type 0
IsBuilt source pass closing job = IsBuiltBy kind_of source pass closing job

-- ---- by a builder on which nothing was set

-- what such a builder leaves to the supervisor, where it is not known what its connector will give
abbrev pub IsAssignedByDefault : {S : Type 0} → (S → Type 0) → Option (List (Option ℤ))
    → Option (List (Option ℤ)) → Assigned S → Type 0
IsAssignedByDefault {S} is_connector clock clock' job =
    (set : JwtSettings) × (connector : S) × IsDefault set × is_connector connector
    × IsAssigned (λ _. None) set connector clock clock' job

abbrev pub FailsByDefault : Option (List (Option ℤ)) → Option (List (Option ℤ)) → ℕ → ℕ → ℕ → ℕ
    → JwtSourceError → Type 0
FailsByDefault clock clock' before now started starts e =
    (set : JwtSettings) × IsDefault set
    × BuildFails set (meeting (Ok tt) None clock clock') before now started starts e
