use Rattle.std.proofs.Common.{◌<◌}
use Rattle.spf_disk.proofs.MemDiskLemmas.{torn_along}
use Rattle.spf_disk.proofs.mem_disk.MemDiskDisk.cut.Goals as goal

pub returns-clause-crash : goal.returns-clause-crash
returns-clause-crash c =
    torn_along (λ i. i < c.args.count) 0 c.args.file
    c.args.self.now.files c.begin.new.self.files c.cut_file-done.new.files c.end.new.self.files
    c.in_ok-begin.ensures.same.0 c.end.ensures.same.0 c.cut_file-done.ensures.crash
