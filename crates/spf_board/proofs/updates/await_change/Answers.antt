use Rattle.std.proofs.lemmas.Result.{err_from_is_err_and}
use Rattle.spf_board.proofs.Passing.{sees_on}
use Rattle.spf_board.proofs.Seeing.{stays_later}
use Rattle.spf_board.proofs.updates.await_change.Goals as goal

pub returns-in_err-revision-clause-closed : goal.returns-in_err-revision-clause-closed
returns-in_err-revision-clause-closed g c =
    let p = err_from_is_err_and c.from_residual.result c.from_residual.ensures.1 in
    rw (p.1, p.2) (stays_later g.K.Shows.showing g.K.Kind.legal c.args.watch.now c.args.marked
    c.args.pass.now c.looks.pass c.look_for_change.new.pass _ c.looks.invariant.pass
    c.in_err-revision.ensures.closed)

pub returns-in_err-revision-clause-pass : goal.returns-in_err-revision-clause-pass
returns-in_err-revision-clause-pass g c =
    sees_on _ _ _ c.looks.invariant.pass c.look_for_change.ensures.pass

pub returns-in-Some-2-clause-reads : goal.returns-in-Some-2-clause-reads
returns-in-Some-2-clause-reads g c = record {
  between = c.looks.pass;
  seen = c.looks.invariant.pass;
  renews = c.in_ok-revision.ensures.renews;
}

pub returns-in-Some-2-clause-pass : goal.returns-in-Some-2-clause-pass
returns-in-Some-2-clause-pass g c =
    sees_on _ _ _ c.looks.invariant.pass c.look_for_change.ensures.pass

pub looks-preserved : goal.looks-preserved
looks-preserved g c = record {
  next = tt;
  finite = tt;
  pass = sees_on _ _ _ c.looks.invariant.pass c.look_for_change.ensures.pass;
}
