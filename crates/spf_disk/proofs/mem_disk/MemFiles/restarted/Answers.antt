use Rattle.spf_disk.proofs.MemDiskLemmas.{all_durable}
use Rattle.spf_disk.proofs.mem_disk.MemFiles.restarted.Goals as goal

pub returns-clause-durable : goal.returns-clause-durable
returns-clause-durable c = λ image left.
    all_durable (record {
      gates = c.in_ok-filled.field-0;
      first = c.in_ok-filled-2.field-0;
      second = c.in_ok-filled-3.field-0;
    }) image c.in_ok-filled.ensures.settled c.in_ok-filled-2.ensures.settled
    c.in_ok-filled-3.ensures.settled left
