use Rattle.std.proofs.Common.{Some, arith}
use Rattle.spf_live.proofs.Marks.{marked_read, sees_on, sees_same}
use Rattle.spf_live.proofs.Printed.{printed_all, printed_failed, printed_more}
use Rattle.spf_live.proofs.printing.print_changes.Goals as goal

pub changes-init : goal.changes-init
changes-init g c = (
  (λ first start empty so. so),
  sees_same _,
  c.requires.marked,
  omega arith,
)

pub changes-preserved : goal.changes-preserved
changes-preserved g c =
    let so = c.changes.invariant in
    let new = c.in-Ok.ensures in (
      (λ first start empty one. printed_more first c.changes.updates.pass.seen
          c.print_change.new.updates.pass.seen (Some c.changes.updates.marked)
          c.print_change.new.updates.marked c.changes.counter start _ _ empty _ _ c.in-Ok.field-0
          (so.0 first start empty one) new.pass.seen new.line),
      sees_on _ _ _ so.1 new.pass,
      marked_read c.print_change.new.updates.pass c.print_change.new.updates.marked _ _ _ _ _
          c.in-Ok.field-0 new.line,
      omega (arith, so.3, new.writes),
    )

pub returns-in-Err-clause-prints : goal.returns-in-Err-clause-prints
returns-in-Err-clause-prints g c = λ first start empty one.
    printed_failed first c.changes.updates.pass.seen c.print_change.new.updates.pass.seen
    (Some c.changes.updates.marked) c.print_change.new.updates.marked c.args.lines
    c.changes.counter start _ _ empty _ _ c.in-Err.e
    (c.changes.invariant.0 first start empty one) c.in-Err.ensures.pass.seen
    c.in-Err.ensures.line

pub returns-clause-prints : goal.returns-clause-prints
returns-clause-prints g c = λ first start empty one.
    printed_all first c.changes.updates.pass.seen (Some c.changes.updates.marked)
    c.changes.counter c.args.lines start _ empty _ (omega arith)
    (c.changes.invariant.0 first start empty one)
