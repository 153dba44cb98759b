use Rattle.std.proofs.Common.{None}
use Rattle.spf_live.proofs.Marks.{marked_read, sees_on}
use Rattle.spf_live.proofs.Printed.{printed_failed, printed_more, printed_none}
use Rattle.spf_live.proofs.printing.print_lines.Goals as goal

pub print_changes-requires-clause-marked : goal.print_changes-requires-clause-marked
print_changes-requires-clause-marked g c =
    marked_read c.print_state.new.updates.pass c.print_state.new.updates.marked None _ _ _ _
    c.in-Ok.field-0 c.in-Ok.ensures.line

pub returns-in-Ok-clause-prints : goal.returns-in-Ok-clause-prints
returns-in-Ok-clause-prints g c =
    let seen = c.args.updates.now.pass.seen in
    c.print_changes.ensures.prints seen (g.T.Clock.moments c.args.clock.now)
    (g.K.Sink.held c.args.out.now)
    (printed_more seen seen c.print_state.new.updates.pass.seen None
    c.print_state.new.updates.marked 0 _ _ _ _ _ _ c.in-Ok.field-0
    (printed_none seen _ _) c.in-Ok.ensures.pass.seen c.in-Ok.ensures.line)

pub returns-in-Err-clause-prints : goal.returns-in-Err-clause-prints
returns-in-Err-clause-prints g c =
    let seen = c.args.updates.now.pass.seen in
    printed_failed seen seen c.print_state.new.updates.pass.seen None
    c.print_state.new.updates.marked c.args.lines 0 _ _ _ _ _ _ c.in-Err.e
    (printed_none seen _ _) c.in-Err.ensures.pass.seen c.in-Err.ensures.line

pub returns-in-Ok-clause-pass : goal.returns-in-Ok-clause-pass
returns-in-Ok-clause-pass g c =
    sees_on _ _ _ c.in-Ok.ensures.pass c.print_changes.ensures.pass
