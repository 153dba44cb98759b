-- Prepared steps, and what keeps them.
use Rattle.std.specs.Prelude.{Bool, false, Option, None, Some}
use Rattle.std.specs.Arc.{arc_value}
use Rattle.std.specs.Option.{option_map}
use Rattle.std.specs.declared.sync.Arc.{Arc}
use Rattle.std.specs.declared.alloc.Global.{Global}
use Rattle.spf_feed.specs.declared.sorted.Sorted.{Sorted}
use Rattle.spf_feed.specs.Sorted.{AreSorted, AreSortedOr}
use Rattle.spf_feed.specs.Steps.{PlainStep, Accept, Deny, same_material}

-- an Accept has the sorted indices of its context, and a Deny has none
abbrev pub HasIndices : PlainStep → Option Sorted → Type 0
HasIndices (Accept material limits) None = ⊥
HasIndices (Accept material limits) (Some indices) = AreSorted material.context indices
HasIndices (Deny reason) None = Unit {0}
HasIndices (Deny reason) (Some indices) = ⊥

-- the same of indices that are shared, and left out where all is few and stands in order
abbrev pub IsIndexed : PlainStep → Option (Arc Sorted Global) → Type 0
IsIndexed (Accept material limits) indices =
    AreSortedOr material.context (option_map arc_value indices)
IsIndexed (Deny reason) indices = Unit {0}

-- both accept, and what they accept is the same
abbrev pub is_same_step : PlainStep → PlainStep → Bool
is_same_step (Accept m l) (Accept n k) = same_material m n
is_same_step (Accept m l) (Deny d) = false
is_same_step (Deny d) step = false
