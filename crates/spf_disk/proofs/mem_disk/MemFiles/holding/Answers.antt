use Rattle.spf_disk.proofs.MemDiskLemmas.{all_durable}
use Rattle.spf_disk.proofs.mem_disk.MemFiles.holding.Goals as goal

pub returns-clause-durable : goal.returns-clause-durable
returns-clause-durable c = λ image left.
    all_durable (record {
      gates = c.in_ok-holding.field-0;
      first = c.in_ok-holding-2.field-0;
      second = c.in_ok-holding-3.field-0;
    }) image c.in_ok-holding.ensures.settled c.in_ok-holding-2.ensures.settled
    c.in_ok-holding-3.ensures.settled left
