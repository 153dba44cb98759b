-- The rules of sessions of X.509 identities.
use Rattle.std.specs.Prelude.{ℕ, List, Option}
use Rattle.std.specs.Option.{option_map}
use Rattle.spf_api.specs.declared.response.ContextResponse.{ContextResponse}
use Rattle.spf_x509.specs.Svid.{Svid}
use Rattle.spf_feed.specs.declared.limits.ResourceLimits.{ResourceLimits}
use Rattle.spf_feed.specs.declared.record.MetricsRecord.{MetricsRecord}
use Rattle.spf_feed.specs.Items.{Rules, rules_with}
use Rattle.spf_feed.specs.Steps.{Material}
use Rattle.spf_feeder.specs.declared.x509_rules.X509Rules.{X509Rules}
use Rattle.spf_feeder.specs.Kinds.{Kind, x509}

-- where `picks` is what pickers pick
abbrev pub rules_by : {K : Type 0} → (K → List Svid → Option ℕ) → X509Rules K → Rules
rules_by picks given =
    rules_with given.settings.limits given.settings.deadline given.settings.ready
    (option_map picks given.picker)

abbrev pub kind_by : {K : Type 0} → (K → List Svid → Option ℕ) → X509Rules K
    → Kind ContextResponse Material ResourceLimits MetricsRecord
kind_by picks given = x509 (rules_by picks given)
