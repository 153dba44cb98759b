use Rattle.spf_disk.specs.Memory.{IsFilledTo}
use Rattle.spf_disk.proofs.mem_file.filled.Given as goal

abbrev pub invariant-loop-i : goal.invariant-loop-i
invariant-loop-i l =
    IsFilledTo l.fill l.i (record { bytes = l.bytes; settled = l.settled }) l.left.items
