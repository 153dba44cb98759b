-- What a supervisor is given, and what it leaves.
use Rattle.std.specs.Prelude.{ℕ, List, Option}
use Rattle.spf_api.specs.declared.response.ContextResponse.{ContextResponse}
use Rattle.spf_link.specs.Connecting.{Member}
use Rattle.spf_x509.specs.Svid.{Svid}
use Rattle.spf_feed.specs.declared.step.Step.{Step}
use Rattle.spf_feed.specs.Steps.{PlainStep, plain}
use Rattle.spf_feeder.specs.declared.x509_rules.X509Rules.{X509Rules}
use Rattle.spf_feeder.specs.Governed.{kind_by}
use Rattle.spf_feeder.specs.Records.{AssignedOf, IsLeftByOf, IsOfBy, IsRecordBy, LeftOf}
use Rattle.spf_feeder.specs.Records.{RecordedOf}
pub use Rattle.spf_feeder.specs.Connectors.{unyielded}
pub use Rattle.spf_feeder.specs.Records.{assigned, left_of, recorded_of, task_of}

-- what a supervisor is given, where S is its connector and K its picker
abbrev pub Assigned : Type 0 → Type 0 → Type 0
Assigned S K = AssignedOf S (X509Rules K) ContextResponse

-- what contracts see of a supervisor's record
abbrev pub Recorded : Type 0 → Type 0
Recorded K = RecordedOf (X509Rules K) ContextResponse Step

-- what each record keeps, where `picks` is what pickers pick
abbrev pub IsRecord : {K : Type 0} → (K → List Svid → Option ℕ) → Recorded K → Type 0
IsRecord picks r = IsRecordBy plain (kind_by picks) r

-- a record of what a supervisor was given
abbrev pub IsOf : {S K : Type 0} → (S → Option (List Member)) → (K → List Svid → Option ℕ)
    → Assigned S K → Recorded K → Type 0
IsOf members picks job r = IsOfBy members (kind_by picks) job r

-- what a supervisor leaves
abbrev pub Left : Type 0 → Type 0
Left K = LeftOf (X509Rules K) ContextResponse Step PlainStep

abbrev pub IsLeftBy : {S K : Type 0} → (S → Option (List Member)) → (K → List Svid → Option ℕ)
    → Assigned S K → Left K → Type 0
IsLeftBy members picks job done = IsLeftByOf members (kind_by picks) plain plain job done
