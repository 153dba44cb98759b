-- The names of kinds.
use Rattle.std.specs.Prelude.{ℕ, List, codes}
use Rattle.spf_jwt_feed.specs.declared.record.JwtMetricsErrorKind.{JwtMetricsErrorKind}
use Rattle.spf_jwt_feed.specs.declared.record.JwtMetricsErrorKind.TheVariants as kinds

abbrev pub metrics_error_name : JwtMetricsErrorKind → List ℕ
metrics_error_name kinds.ClientCreation = codes "client_creation"
metrics_error_name kinds.StreamConnect = codes "stream_connect"
metrics_error_name kinds.StreamError = codes "stream_error"
metrics_error_name kinds.StreamEnded = codes "stream_ended"
metrics_error_name kinds.InitialSyncFailed = codes "initial_sync_failed"
metrics_error_name kinds.LimitMaxBundles = codes "limit_max_bundles"
metrics_error_name kinds.LimitMaxBundleJwksBytes = codes "limit_max_bundle_jwks_bytes"
metrics_error_name kinds.UpdateRejected = codes "update_rejected"
metrics_error_name kinds.SupervisorJoinFailed = codes "supervisor_join_failed"
