use Rattle.std.proofs.Common.{◌≡◌, ◌++◌, length, map, reverse}
use Rattle.spf_messages.specs.Members.{claim_of}
use Rattle.spf_messages.proofs.claims.owned.Given as goal

abbrev pub invariant-loop-name : goal.invariant-loop-name
invariant-loop-name l =
    map claim_of l.left.items ++ reverse l.claims.items ≡ map claim_of l.fn.views.items

abbrev pub decreases-loop-name : goal.decreases-loop-name
decreases-loop-name l = length l.left.items
