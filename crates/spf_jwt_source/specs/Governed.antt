-- The rules of sessions of JWT bundles.
use Rattle.spf_api.specs.declared.response.BundlesResponse.{BundlesResponse}
use Rattle.spf_jwt.specs.declared.limits.JwtResourceLimits.{JwtResourceLimits}
use Rattle.spf_feeder.specs.Kinds.{Kind}
use Rattle.spf_jwt_feed.specs.declared.record.JwtMetricsRecord.{JwtMetricsRecord}
use Rattle.spf_jwt_feed.specs.Items.{Rules}
use Rattle.spf_jwt_feed.specs.Steps.{BundleSet}
use Rattle.spf_jwt_source.specs.declared.rules.JwtRules.{JwtRules}
use Rattle.spf_jwt_source.specs.Kinds.{jwt}

abbrev pub rules_of : JwtRules → Rules
rules_of given = record { limits = given.limits; deadline = given.deadline }

abbrev pub kind_of : JwtRules → Kind BundlesResponse BundleSet JwtResourceLimits JwtMetricsRecord
kind_of given = jwt (rules_of given)
