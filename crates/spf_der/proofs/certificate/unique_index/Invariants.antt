use Rattle.std.proofs.Common.{◌≡◌, take, Ok}
use Rattle.spf_der.specs.Read.{index_rule}
use Rattle.spf_der.proofs.certificate.unique_index.Given as goal

abbrev pub invariant-loop-index : goal.invariant-loop-index
invariant-loop-index l = index_rule l.oid (take l.index l.extensions) ≡ Ok l.found
