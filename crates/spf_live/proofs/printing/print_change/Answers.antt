use Rattle.spf_live.proofs.Marks.{prints_above, sees_on}
use Rattle.spf_live.proofs.printing.print_change.Goals as goal

pub returns-in-Ok-clause-line : goal.returns-in-Ok-clause-line
returns-in-Ok-clause-line g c =
    prints_above c.args.updates.now.pass c.changed.new.self.pass
    c.print_state.new.updates.pass.seen c.args.updates.now.marked c.in-Ok._revision
    c.print_state.new.updates.marked _ _ _ _ _ c.requires c.changed.ensures.pass.seen
    c.in-Ok.ensures.revision.0 c.in-Ok.ensures.revision.1 c.print_state.ensures.pass.seen
    c.print_state.ensures.line

pub returns-in-Ok-clause-pass : goal.returns-in-Ok-clause-pass
returns-in-Ok-clause-pass g c =
    sees_on _ _ _ c.changed.ensures.pass c.print_state.ensures.pass
