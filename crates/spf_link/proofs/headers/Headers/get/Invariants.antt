use Rattle.std.proofs.Common.{◌≡◌, length}
use Rattle.spf_link.specs.Headers.{value_in}
use Rattle.spf_link.proofs.headers.Headers.get.Given as goal

abbrev pub invariant-loop-entry : goal.invariant-loop-entry
invariant-loop-entry l = value_in l.name l.fn.self ≡ value_in l.name l.rest

abbrev pub decreases-loop-entry : goal.decreases-loop-entry
decreases-loop-entry l = length l.rest
