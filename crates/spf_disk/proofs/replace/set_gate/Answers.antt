use Rattle.spf_disk.specs.Replacing.{ButGate}
use Rattle.spf_disk.proofs.Moments.{started, goes_on}
use Rattle.spf_disk.proofs.Octets.{gate_crash, same_gate}
use Rattle.spf_disk.proofs.replace.set_gate.Goals as goal

pub returns-in_err-write_at-clause-any_moment : goal.returns-in_err-write_at-clause-any_moment
returns-in_err-write_at-clause-any_moment g c =
    let disk = c.args.disk.now in
    let P = ButGate c.args.slot (g.D.Disk.seen disk) in
    let begun = started g.D.Disk.moment g.D.Disk.left_since disk P
    (λ image left. same_gate c.args.slot _ _
    (c.requires.durable image (g.met.D.Disk.only_now disk image left))) in
    goes_on g.D.Disk.moment g.D.Disk.left_since disk disk c.write_at.new.self P _ begun
    c.write_at.ensures.time
    (gate_crash c.args.slot _ _ _ _ c.gate.ensures c.requires.room c.requires.durable
    c.write_at.ensures.crash)

pub returns-clause-any_moment : goal.returns-clause-any_moment
returns-clause-any_moment g c =
    let disk = c.args.disk.now in
    let P = ButGate c.args.slot (g.D.Disk.seen disk) in
    let begun = started g.D.Disk.moment g.D.Disk.left_since disk P
    (λ image left. same_gate c.args.slot _ _
    (c.requires.durable image (g.met.D.Disk.only_now disk image left))) in
    let crash = gate_crash c.args.slot _ _ _ _ c.gate.ensures c.requires.room c.requires.durable
    c.write_at.ensures.crash in
    let torn = goes_on g.D.Disk.moment g.D.Disk.left_since disk disk c.write_at.new.self P _ begun
    c.write_at.ensures.time crash in
    goes_on g.D.Disk.moment g.D.Disk.left_since disk c.write_at.new.self c.sync.new.self P _ torn
    c.sync.ensures.time (λ image left. crash image (c.sync.ensures.crash image left))
