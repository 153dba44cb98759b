-- What a supervisor is given, and what it leaves.
use Rattle.std.specs.Prelude.{List, Option}
use Rattle.spf_api.specs.declared.response.BundlesResponse.{BundlesResponse}
use Rattle.spf_link.specs.Connecting.{Member}
use Rattle.spf_jwt_feed.specs.declared.step.JwtStep.{JwtStep}
use Rattle.spf_jwt_feed.specs.Steps.{PlainStep, plain}
use Rattle.spf_jwt_source.specs.declared.rules.JwtRules.{JwtRules}
use Rattle.spf_jwt_source.specs.Governed.{kind_of}
use Rattle.spf_feeder.specs.Records.{AssignedOf, IsLeftByOf, IsOfBy, IsRecordBy, LeftOf}
use Rattle.spf_feeder.specs.Records.{RecordedOf}
pub use Rattle.spf_feeder.specs.Records.{assigned, left_of, recorded_of, task_of}

-- what a supervisor is given, where S is its connector
abbrev pub Assigned : Type 0 → Type 0
Assigned S = AssignedOf S JwtRules BundlesResponse

-- what contracts see of a supervisor's record
abbrev pub Recorded : Type 0
Recorded = RecordedOf JwtRules BundlesResponse JwtStep

-- what each record keeps
abbrev pub IsRecord : Recorded → Type 0
IsRecord r = IsRecordBy plain kind_of r

-- a record of what a supervisor was given
abbrev pub IsOf : {S : Type 0} → (S → Option (List Member)) → Assigned S → Recorded → Type 0
IsOf members job r = IsOfBy members kind_of job r

-- what a supervisor leaves
abbrev pub Left : Type 0
Left = LeftOf JwtRules BundlesResponse JwtStep PlainStep

abbrev pub IsLeftBy : {S : Type 0} → (S → Option (List Member)) → Assigned S → Left → Type 0
IsLeftBy members job done = IsLeftByOf members kind_of plain plain job done
