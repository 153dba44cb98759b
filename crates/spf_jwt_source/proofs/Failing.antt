-- Why an initial synchronisation fails.
use Rattle.std.proofs.Common.{◌≡◌, Bool, Err, Ok, false, inl, inr, refl, true}
use Rattle.std.specs.Prelude.{MatchBool, if◌then◌else◌}
use Rattle.spf_api.specs.declared.endpoint_error.EndpointError.{EndpointError}
use Rattle.spf_api.specs.declared.error.WorkloadApiError.TheVariants as api
use Rattle.spf_link.specs.Endpoint.{is_memory}
use Rattle.spf_io.specs.Rule.{Gives}
use Rattle.spf_jwt_feed.specs.declared.state.JwtSourceError.TheVariants as errors
use Rattle.spf_feed.specs.declared.turn.Terminal.TheVariants as terminal
use Rattle.spf_feeder.specs.declared.session.Stop.{Stop}
use Rattle.spf_feeder.specs.declared.session.Stop.TheVariants as stops
use Rattle.spf_feeder.specs.Opened.{Meeting}
use Rattle.spf_jwt_source.specs.declared.builder.JwtSettings.{JwtSettings}
use Rattle.spf_jwt_source.specs.Building.{StopsBy, SyncFails, refused_as, stopped_as}

-- an endpoint that was refused
pub refused_fails : (set : JwtSettings) (met : Meeting) (e : EndpointError)
    → Gives {X = Unit {0}} is_memory (λ u. u) (Err e) met.valid → SyncFails set met (refused_as e)
refused_fails set met e h = by_memory (is_memory e) h
  where
    by_memory : (b : Bool) → MatchBool b (Unit {0}) (met.valid ≡ Err e)
        → SyncFails set met (if b then errors.OutOfMemory else errors.Source (api.Endpoint e))
    by_memory true h = tt
    by_memory false h = inl (e, h, refl)

-- a terminal event, or no memory
pub stopped_fails : (set : JwtSettings) (met : Meeting) (stop : Stop) → met.valid ≡ Ok tt
    → StopsBy set met stop → SyncFails set met (stopped_as stop)
stopped_fails set met (stops.Terminal (terminal.Source e)) ready h = inr (ready, h)
stopped_fails set met (stops.Terminal (terminal.UnsupportedRpc e)) ready h = (ready, h)
stopped_fails set met (stops.Terminal terminal.InitialSyncTimeout) ready h = (ready, h)
stopped_fails set met (stops.Terminal terminal.Closed) ready h = tt
stopped_fails set met stops.OutOfMemory ready h = tt
