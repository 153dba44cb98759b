-- The state of a source, and what its calls return, where memory does not run out.
use Rattle.std.specs.Prelude.{◌≡◌, ℕ, Bool, not, ◌==◌, length, List, Some}
use Rattle.std.specs.Prelude.{Result, Ok, Err}
use Rattle.std.specs.Arc.{arc_value}
use Rattle.std.specs.List.{list_any}
use Rattle.std.specs.declared.sync.Arc.{Arc}
use Rattle.std.specs.declared.alloc.Global.{Global}
use Rattle.spf_api.specs.declared.error.WorkloadApiError.{WorkloadApiError}
use Rattle.spf_api.specs.declared.error.WorkloadApiError.TheVariants as api
use Rattle.spf_view.specs.Views.{View}
use Rattle.spf_view.specs.Standing.{held_in, reason_of}
use Rattle.spf_jwt.specs.Bundle.{Bundle}
use Rattle.spf_feed.specs.declared.step.Denial.{Denial}
use Rattle.spf_jwt_feed.specs.declared.state.JwtSourceError.{JwtSourceError}
use Rattle.spf_jwt_feed.specs.declared.state.JwtSourceError.TheVariants as errors
use Rattle.spf_jwt_feed.specs.Steps.{BundleSet}

-- the revision and the view, with whether the source is closed
pub record StateView : Type 0 where
  pub revision : ℕ
  pub closed : Bool
  pub view : View BundleSet Denial

-- the bundle of some trust domain has a key
abbrev pub has_authority : BundleSet → Bool
has_authority = list_any (λ (e : List ℕ × Bundle). not (length e.1.authorities == 0))

-- the held bundle set, or the reason of the withdrawal
abbrev pub SetAnswer : View BundleSet Denial → Result (Arc BundleSet Global) JwtSourceError → Type 0
SetAnswer view (Ok set) = held_in view ≡ Some (arc_value set)
SetAnswer view (Err (errors.Withdrawn reason)) = reason_of view ≡ Some (arc_value reason)
SetAnswer view (Err errors.OutOfMemory) = Unit {0}
SetAnswer view (Err _) = ⊥

-- how an error of the Workload API reads for a source: out of memory stays out of memory
abbrev pub source_of_api : WorkloadApiError → JwtSourceError
source_of_api api.OutOfMemory = errors.OutOfMemory
source_of_api e = errors.Source e
