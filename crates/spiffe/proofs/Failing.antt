-- Why an initial synchronisation fails.
use Rattle.std.proofs.Common.{◌≡◌, Bool, Err, List, Ok, Option, false, inl, inr, refl, true}
use Rattle.std.proofs.Common.{ℕ}
use Rattle.std.specs.Prelude.{MatchBool, if◌then◌else◌}
use Rattle.spf_api.specs.declared.endpoint_error.EndpointError.{EndpointError}
use Rattle.spf_api.specs.declared.error.WorkloadApiError.TheVariants as api
use Rattle.spf_link.specs.Endpoint.{is_memory}
use Rattle.spf_io.specs.Rule.{Gives}
use Rattle.spf_x509.specs.Svid.{Svid}
use Rattle.spf_feed.specs.declared.state.X509SourceError.TheVariants as errors
use Rattle.spf_feed.specs.declared.turn.Terminal.TheVariants as terminal
use Rattle.spf_feeder.specs.declared.session.Stop.{Stop}
use Rattle.spf_feeder.specs.declared.session.Stop.TheVariants as stops
use Rattle.spf_feeder.specs.Opened.{Meeting}
use Rattle.spiffe.specs.declared.builder.Settings.{Settings}
use Rattle.spiffe.specs.Building.{StopsBy, SyncFails, refused_as, stopped_as}

-- an endpoint that was refused
pub refused_fails : {K : Type 0} (picks : K → List Svid → Option ℕ) (set : Settings K)
    (met : Meeting) (e : EndpointError) → Gives {X = Unit {0}} is_memory (λ u. u) (Err e) met.valid
    → SyncFails picks set met (refused_as e)
refused_fails picks set met e h = by_memory (is_memory e) h
  where
    by_memory : (b : Bool) → MatchBool b (Unit {0}) (met.valid ≡ Err e)
        → SyncFails picks set met (if b then errors.OutOfMemory else errors.Source (api.Endpoint e))
    by_memory true h = tt
    by_memory false h = inl (e, h, refl)

-- a terminal event, or no memory
pub stopped_fails : {K : Type 0} (picks : K → List Svid → Option ℕ) (set : Settings K)
    (met : Meeting) (stop : Stop) → met.valid ≡ Ok tt → StopsBy picks set met stop
    → SyncFails picks set met (stopped_as stop)
stopped_fails picks set met (stops.Terminal (terminal.Source e)) ready h = inr (ready, h)
stopped_fails picks set met (stops.Terminal (terminal.UnsupportedRpc e)) ready h = (ready, h)
stopped_fails picks set met (stops.Terminal terminal.InitialSyncTimeout) ready h = (ready, h)
stopped_fails picks set met (stops.Terminal terminal.Closed) ready h = tt
stopped_fails picks set met stops.OutOfMemory ready h = tt
