use Rattle.spf_disk.specs.Memory.{IsUnsettled}
use Rattle.spf_disk.proofs.mem_file.unsettled.Given as goal

abbrev pub invariant-loop-i : goal.invariant-loop-i
invariant-loop-i l = IsUnsettled l.from l.end l.i l.settled l.left.items
