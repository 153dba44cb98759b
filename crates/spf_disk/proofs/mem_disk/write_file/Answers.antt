use Rattle.spf_disk.specs.MemoryDisk.{moments}
use Rattle.spf_disk.proofs.MemDiskLemmas.{write_change, elapses_pushed}
use Rattle.spf_disk.proofs.mem_disk.write_file.Goals as goal

pub returns-clause-crash : goal.returns-clause-crash
returns-clause-crash c =
    write_change c.args.at c.args.piece.now c.args.file c.args.files.now c.change.new.files
    c.file.result.now c.in_ok-state.state c.file.ensures c.in_ok-change.ensures.ok c.requires
    c.in_ok-state.ensures.bytes c.in_ok-state.ensures.settled

pub returns-clause-time : goal.returns-clause-time
returns-clause-time c =
    elapses_pushed (moments c.args.past.now.items) (moments c.change.new.past.items)
    c.args.files.now c.change.new.files c.in_ok-change.ensures.kept
