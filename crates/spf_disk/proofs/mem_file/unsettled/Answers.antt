use Rattle.spf_disk.proofs.MemoryLemmas.{unsettled_more}
use Rattle.spf_disk.proofs.mem_file.unsettled.Goals as goal

pub loop-i-preserved : goal.loop-i-preserved
loop-i-preserved c =
    rw c.in_ok-push.ensures.items
    (unsettled_more c.args.from c.args.end c.loop-i.i c.args.settled.now c.loop-i.left.items
    c.stays.result c.stays.ensures.0 c.stays.ensures.1 c.loop-i.invariant)
