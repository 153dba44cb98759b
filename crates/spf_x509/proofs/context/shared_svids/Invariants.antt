use Rattle.std.proofs.Common.{◌≡◌, map, take}
use Rattle.std.specs.Arc.{arc_value}
use Rattle.spf_x509.proofs.context.shared_svids.Given as goal

abbrev pub invariant-loop-svid : goal.invariant-loop-svid
invariant-loop-svid l = map arc_value l.shared.items ≡ map arc_value (take l.svid-index l.svids)
