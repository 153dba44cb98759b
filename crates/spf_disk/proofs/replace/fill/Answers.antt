use Rattle.spf_disk.specs.Image.{SameOthers}
use Rattle.spf_disk.proofs.Moments.{started, goes_on}
use Rattle.spf_disk.proofs.Files.{same_others, torn_others}
use Rattle.spf_disk.proofs.replace.fill.Goals as goal

pub returns-clause-any_moment : goal.returns-clause-any_moment
returns-clause-any_moment g c =
    let disk = c.args.disk.now in
    let P = SameOthers c.args.file (g.D.Disk.seen disk) in
    let begun = started g.D.Disk.moment g.D.Disk.left_since disk P
    (λ image left. same_others c.args.file _ _
    (c.requires.durable image (g.met.D.Disk.only_now disk image left))) in
    let crash = torn_others c.args.file _ _ _ _ _
    (λ image left. same_others c.args.file _ _ (c.requires.durable image left))
    c.write_at.ensures.crash in
    let torn = goes_on g.D.Disk.moment g.D.Disk.left_since disk disk c.write_at.new.self P _ begun
    c.write_at.ensures.time crash in
    let cut_too = torn_others c.args.file _ _ _ _ _ crash c.cut.ensures.crash in
    let kept = goes_on g.D.Disk.moment g.D.Disk.left_since disk c.write_at.new.self c.cut.new.self P
    _ torn c.cut.ensures.time cut_too in
    goes_on g.D.Disk.moment g.D.Disk.left_since disk c.cut.new.self c.sync.new.self P _ kept
    c.sync.ensures.time (λ image left. cut_too image (c.sync.ensures.crash image left))
