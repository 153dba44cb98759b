use Rattle.spf_disk.proofs.MemoryLemmas.{filled_more}
use Rattle.spf_disk.proofs.mem_file.filled.Goals as goal

pub loop-i-preserved : goal.loop-i-preserved
loop-i-preserved c =
    rw c.in_ok-push.ensures.items
    (filled_more c.args.fill c.loop-i.i
    (record { bytes = c.args.bytes.now; settled = c.args.settled.now }) c.loop-i.left.items
    c.octet_left.result c.octet_left.ensures.stays c.octet_left.ensures.fills c.loop-i.invariant)
