-- What is known of the set of bundles while SVIDs are read.
use Rattle.std.specs.Prelude.{◌≡◌, ◌-◌, ℕ, List, length, slice_get, Ok, Some}
use Rattle.std.specs.Arc.{arc_value}
use Rattle.std.specs.declared.alloc.Global.{Global}
use Rattle.std.specs.declared.sync.Arc.{Arc}
use Rattle.spf_x509.specs.Bundle.{Bundle}
use Rattle.spf_x509.specs.Svid.{Svid}
use Rattle.spf_api.specs.Parsed.{bundle_for, with_bundle}

-- the bundle of the trust domain that the bytes are is in the set: adding it changes nothing
pub record IsAdded (set : List (List ℕ × Bundle)) (domain der : List ℕ) : Type 0 where
  pub bundle : Bundle
  pub read : bundle_for domain der ≡ Ok bundle
  pub stays : with_bundle set bundle ≡ set

-- the last of the SVIDs is of that trust domain
pub record IsLastDomain (svids : List (Arc Svid Global)) (domain : List ℕ) : Type 0 where
  pub svid : Arc Svid Global
  pub last : slice_get svids (length svids - 1) ≡ Some svid
  pub is : (arc_value svid).id.domain ≡ domain

-- the set has the bundle of the last of the SVIDs, which those bytes are
abbrev pub IsLastIn : List (Arc Svid Global) → List ℕ → List (List ℕ × Bundle) → Type 0
IsLastIn svids der set =
    (svid : Arc Svid Global) → slice_get svids (length svids - 1) ≡ Some svid
    → IsAdded set (arc_value svid).id.domain der
