-- What a source is built by, where its connector is one of which nothing is known.
use Rattle.std.proofs.Common.{◌≡◌, List, None, Option, refl, subst, sym, ℕ}
use Rattle.std.specs.Prelude.{ℤ}
use Rattle.spf_board.specs.Passes.{PassView}
use Rattle.spf_system.specs.Marks.{Mark}
use Rattle.spf_link.specs.Connecting.{Member}
use Rattle.spf_system.specs.declared.reconnect_config.ReconnectConfig.{ReconnectConfig}
use Rattle.spf_board.specs.Sources.{Source}
use Rattle.spf_view.specs.Steps.{Step}
use Rattle.spf_feed.specs.declared.step.Denial.{Denial}
use Rattle.spf_feeder.specs.Kinds.{Kind}
use Rattle.spf_feeder.specs.Building.{IsAssignedBy, IsBuiltBy}
use Rattle.spf_feeder.specs.Records.{AssignedOf}

-- the job that was started
pub built_as : {S G I M B R : Type 0} (kind : G → Kind I M B R) (source : Source)
    (pass : PassView (Step M B Denial) Mark) (cell cell' : ℕ) (job job' : AssignedOf S G I)
    → cell' ≡ cell → job' ≡ job → IsBuiltBy kind source pass cell job
    → IsBuiltBy kind source pass cell' job'
built_as {S = S} {G = G} {I = I} kind source pass cell cell' job job' same same' built =
    subst (λ (x : ℕ × AssignedOf S G I). IsBuiltBy kind source pass x.0 x.1)
    (λ i. (sym same i, sym same' i)) built

pub assigned_as : {S G I M B R : Type 0} (members : S → Option (List Member))
    (kind : G → Kind I M B R) (IsSet : G → Type 0) (bounds : ReconnectConfig) (connector : S)
    (clock clock' : Option (List (Option ℤ))) (job job' : AssignedOf S G I) → job' ≡ job
    → IsAssignedBy members kind IsSet bounds connector clock clock' job
    → IsAssignedBy (λ _. None) kind IsSet bounds connector clock clock' job'
assigned_as {S = S} {G = G} {I = I} members kind IsSet bounds connector clock clock' job job' same
    is =
    subst (λ (j : AssignedOf S G I).
    IsAssignedBy (λ _. None) kind IsSet bounds connector clock clock' j) (sym same)
    (record {
      rules = is.rules;
      bounds_are = is.bounds_are;
      members_are = refl;
      synced = is.synced;
      orderly = is.orderly;
      yielded = tt;
      clock_is = is.clock_is;
    })
