-- The same members in another order, and another member.
use Rattle.std.specs.Prelude.{◌≡◌, ℕ, Bool, false, List, ◌∷◌, ◌++◌}
use Rattle.std.specs.List.{AllZip, list_any}
use Rattle.std.specs.List.Sorted.{IsPermutation}
use Rattle.spf_x509.specs.Bundle.{Bundle}
use Rattle.spf_feed.specs.Material.{Material, chosen_of}

-- the same trust domain, with its authorities in another order
pub record IsReorderedEntry (p q : List ℕ × Bundle) : Type 0 where
  pub domain : p.0 ≡ q.0
  pub authorities : IsPermutation p.1.authorities q.1.authorities

-- the same members in another order, the same one of them chosen
pub record IsReordered (a b : Material) : Type 0 where
  pub chosen : chosen_of a ≡ chosen_of b
  pub svids : IsPermutation a.context.svids b.context.svids
  pub bundles : AllZip IsReorderedEntry a.context.bundles b.context.bundles
  pub crls : IsPermutation a.context.crls b.context.crls

-- a member of the second list equals none of the first
pub record HasAnother {X : Type 0} (E : X → X → Bool) (xs ys : List X) : Type 0 where
  pub before : List X
  pub member : X
  pub after : List X
  pub there : ys ≡ before ++ member ∷ after
  pub new : list_any (E member) xs ≡ false
