-- Sessions of JWT bundles, as a feeder sees them.
use Rattle.spf_api.specs.declared.response.BundlesResponse.{BundlesResponse}
use Rattle.spf_jwt.specs.declared.limits.JwtResourceLimits.{JwtResourceLimits}
use Rattle.spf_feeder.specs.Kinds.{Kind}
use Rattle.spf_jwt_feed.specs.declared.record.JwtMetricsRecord.{JwtMetricsRecord}
use Rattle.spf_jwt_feed.specs.Items.{Rules, item_in, subject}
use Rattle.spf_jwt_feed.specs.Run.{ask_of, outputs, stream}
use Rattle.spf_jwt_feed.specs.Steps.{BundleSet}
use Rattle.spf_jwt_source.specs.Asking.{jwt_bundles}

-- by their rules
abbrev pub jwt : Rules → Kind BundlesResponse BundleSet JwtResourceLimits JwtMetricsRecord
jwt rules = record {
  wanted = jwt_bundles;
  subject = subject rules;
  ask = ask_of item_in rules;
  refusal = (stream rules).refusal;
  records = (outputs rules).records;
}
