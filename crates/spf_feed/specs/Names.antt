-- The names of kinds.
use Rattle.std.specs.Prelude.{ℕ, List, codes}
use Rattle.spf_feed.specs.declared.limits.LimitKind.{LimitKind}
use Rattle.spf_feed.specs.declared.limits.LimitKind.TheVariants.{MaxSvids, MaxBundles}
use Rattle.spf_feed.specs.declared.limits.LimitKind.TheVariants.{MaxBundleDerBytes, MaxCrlBytes}
use Rattle.spf_feed.specs.declared.record.MetricsErrorKind.{MetricsErrorKind}
use Rattle.spf_feed.specs.declared.record.MetricsErrorKind.TheVariants.{ClientCreation}
use Rattle.spf_feed.specs.declared.record.MetricsErrorKind.TheVariants.{StreamConnect, StreamError}
use Rattle.spf_feed.specs.declared.record.MetricsErrorKind.TheVariants.{StreamEnded}
use Rattle.spf_feed.specs.declared.record.MetricsErrorKind.TheVariants.{InitialSyncFailed}
use Rattle.spf_feed.specs.declared.record.MetricsErrorKind.TheVariants.{NoSuitableSvid}
use Rattle.spf_feed.specs.declared.record.MetricsErrorKind.TheVariants.{LimitMaxSvids}
use Rattle.spf_feed.specs.declared.record.MetricsErrorKind.TheVariants.{LimitMaxBundles}
use Rattle.spf_feed.specs.declared.record.MetricsErrorKind.TheVariants.{LimitMaxBundleDerBytes}
use Rattle.spf_feed.specs.declared.record.MetricsErrorKind.TheVariants.{LimitMaxCrlBytes}
use Rattle.spf_feed.specs.declared.record.MetricsErrorKind.TheVariants.{UpdateRejected}
use Rattle.spf_feed.specs.declared.record.MetricsErrorKind.TheVariants.{SupervisorJoinFailed}

abbrev pub limit_kind_name : LimitKind → List ℕ
limit_kind_name MaxSvids = codes "max_svids"
limit_kind_name MaxBundles = codes "max_bundles"
limit_kind_name MaxBundleDerBytes = codes "max_bundle_der_bytes"
limit_kind_name MaxCrlBytes = codes "max_crl_bytes"

abbrev pub metrics_error_name : MetricsErrorKind → List ℕ
metrics_error_name ClientCreation = codes "client_creation"
metrics_error_name StreamConnect = codes "stream_connect"
metrics_error_name StreamError = codes "stream_error"
metrics_error_name StreamEnded = codes "stream_ended"
metrics_error_name InitialSyncFailed = codes "initial_sync_failed"
metrics_error_name NoSuitableSvid = codes "no_suitable_svid"
metrics_error_name LimitMaxSvids = codes "limit_max_svids"
metrics_error_name LimitMaxBundles = codes "limit_max_bundles"
metrics_error_name LimitMaxBundleDerBytes = codes "limit_max_bundle_der_bytes"
metrics_error_name LimitMaxCrlBytes = codes "limit_max_crl_bytes"
metrics_error_name UpdateRejected = codes "update_rejected"
metrics_error_name SupervisorJoinFailed = codes "supervisor_join_failed"
