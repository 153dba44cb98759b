-- A few entries in a list, or more of them in a tree.
use Rattle.std.specs.Prelude.{◌≡◌, ◌<◌, ◌≤◌, ℕ, List, [], ◌++◌, ◌⊎◌, Option, None, Some, length}
use Rattle.std.specs.Prelude.{map, slice_set}
use Rattle.std.specs.List.{insert}
use Rattle.std.specs.declared.sync.Arc.{Arc}
use Rattle.std.specs.declared.alloc.Global.{Global}
use Rattle.spf_x509.specs.declared.bundle_map.TheConstants.{FEW}
use Rattle.spf_x509.specs.Bundle.{Bundle, IsInDomainOrder, plain_entry, with_entry}

-- the entries are in order, all in the list or all in the tree
pub record AreFewOrMany (few many : List (List ℕ × Bundle)) : Type 0 where
  pub order : IsInDomainOrder (few ++ many)
  pub small : length few ≤ FEW
  pub either : (many ≡ []) ⊎ ((few ≡ []) × (FEW < length many))

-- the entries of a tree, where there is one
abbrev pub left_in : Option (List (List ℕ × Arc Bundle Global)) → List (List ℕ × Bundle)
left_in None = []
left_in (Some entries) = map plain_entry entries

-- the trust domain has its entry at i
pub record StandsAt {V : Type 0} (es : List (List ℕ × V)) (domain : List ℕ) (i : ℕ) : Type 0 where
  pub within : i < length es
  pub put : (v : V) → with_entry es domain v ≡ slice_set es i (domain, v)

-- the trust domain has no entry, and one would go before that at i
pub record GoesAt {V : Type 0} (es : List (List ℕ × V)) (domain : List ℕ) (i : ℕ) : Type 0 where
  pub within : i ≤ length es
  pub put : (v : V) → with_entry es domain v ≡ insert es i (domain, v)
