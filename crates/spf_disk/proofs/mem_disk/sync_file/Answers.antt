use Rattle.std.proofs.Common.{subst}
use Rattle.spf_disk.specs.declared.mem_disk.MemFiles.{MemFiles}
use Rattle.spf_disk.specs.MemoryDisk.{IsLeft, moments}
use Rattle.spf_disk.proofs.MemDiskLemmas.{sync_no_more, sync_durable, synced_files, elapses_pushed}
use Rattle.spf_disk.proofs.mem_disk.sync_file.Goals as goal

pub returns-clause-durable : goal.returns-clause-durable
returns-clause-durable c = λ image left.
    let changed = synced_files c.args.file c.args.files.now c.change.new.files c.file.result.now
    c.in_ok-state.state c.file.ensures c.in_ok-state.ensures c.in_ok-change.ensures.ok in
    sync_durable c.args.file c.args.files.now image
    (subst (λ (f : MemFiles). IsLeft f image) changed left)

pub returns-clause-crash : goal.returns-clause-crash
returns-clause-crash c = λ image left.
    let changed = synced_files c.args.file c.args.files.now c.change.new.files c.file.result.now
    c.in_ok-state.state c.file.ensures c.in_ok-state.ensures c.in_ok-change.ensures.ok in
    sync_no_more c.args.file c.args.files.now image
    (subst (λ (f : MemFiles). IsLeft f image) changed left)

pub returns-clause-time : goal.returns-clause-time
returns-clause-time c =
    elapses_pushed (moments c.args.past.now.items) (moments c.change.new.past.items)
    c.args.files.now c.change.new.files c.in_ok-change.ensures.kept
