use Rattle.std.proofs.Common.{sym, ◌∙◌, ap, subst}
use Rattle.spf_disk.specs.declared.slot.Slot.TheVariants as slot
use Rattle.spf_disk.specs.Image.{Image}
use Rattle.spf_disk.specs.Opening.{IsOpened}
use Rattle.spf_disk.specs.Scanning.{IsNext}
use Rattle.spf_disk.specs.Slots.{gate_of}
use Rattle.spf_disk.specs.Standing.{is_open}
use Rattle.spf_disk.proofs.Opens.{is_opened}
use Rattle.spf_disk.proofs.opening.open_files.Goals as goal

pub returns-clause-opens : goal.returns-clause-opens
returns-clause-opens g c =
    let synced = c.in_ok-sync_all.ensures.looks.same in
    let here = c.in_ok-gates.ensures.looks.same ∙ synced in
    let found = c.in_ok-scanned.scanned in
    subst (IsOpened (g.D.Disk.seen c.args.disk.now)) (sym c.seen_from.ensures)
    (is_opened (g.D.Disk.seen c.args.disk.now) found.next found.entry c.number_or_zero.result
    c.in_ok-gates.gates.first c.in_ok-gates.gates.second c.number_or_zero.ensures
    (c.in_ok-gates.ensures.first ∙ ap (λ (i : Image). is_open (gate_of i slot.First)) synced)
    (c.in_ok-gates.ensures.second ∙ ap (λ (i : Image). is_open (gate_of i slot.Second)) synced)
    (subst (IsNext found.next found.entry) here c.in_ok-scanned.ensures.next))
