use Rattle.std.proofs.Common.{◌∙◌, refl, inl}
use Rattle.std.proofs.lemmas.Fn.{called_at}
use Rattle.std.proofs.lemmas.Result.{err_from_is_err_and}
use denote.Param.Always.{mut_next}
use Rattle.spf_board.proofs.Passing.{marks_later, marks_now, on_any, reads_later, sees_on}
use Rattle.spf_board.proofs.Passing.{sees_self}
use Rattle.spf_board.proofs.Seeing.{cause_of}
use Rattle.spf_board.specs.Showing.{IsRevisionBy}
use Rattle.spf_board.proofs.updates.SourceUpdates.wait_for.Goals as goal

pub returns-then-f-2-clause-reads : goal.returns-then-f-2-clause-reads
returns-then-f-2-clause-reads g c =
    reads_later g.K.Kind.legal _ _ _ c.changes.invariant.pass c.in_ok-revision.ensures.reads

pub returns-then-f-2-clause-pass : goal.returns-then-f-2-clause-pass
returns-then-f-2-clause-pass g c =
    sees_on _ _ _ c.changes.invariant.pass c.in_ok-revision.ensures.pass

pub returns-in_err-revision-clause-unmarked : goal.returns-in_err-revision-clause-unmarked
returns-in_err-revision-clause-unmarked g c =
    on_any _ _ (marks_later (IsRevisionBy g.K.Shows.showing) _ _ _ _ _ _ c.changes.invariant.marks
    c.in_err-revision.ensures.unmarked c.changed.ensures.pass)

pub returns-in_err-current-clause-cause : goal.returns-in_err-current-clause-cause
returns-in_err-current-clause-cause g c =
    let p = err_from_is_err_and c.from_residual.result c.from_residual.ensures.1 in
    rw (p.1, p.2) c.in_err-current.ensures.cause

pub returns-in_err-current-clause-unmarked : goal.returns-in_err-current-clause-unmarked
returns-in_err-current-clause-unmarked g c = on_any _ _ (inl c.in_err-current.ensures.marked)

pub returns-then-f-clause-taken : goal.returns-then-f-clause-taken
returns-then-f-clause-taken g c = (_, _, called_at g.F.FnMut c.f.ensures c.if-f.true)

pub returns-then-f-clause-reads : goal.returns-then-f-clause-reads
returns-then-f-clause-reads g c = record {
  between = c.args.self.now.pass;
  seen = sees_self c.args.self.now.pass;
  renews = c.in_ok-current.ensures.renews;
}

pub returns-in_err-revision-clause-cause : goal.returns-in_err-revision-clause-cause
returns-in_err-revision-clause-cause g c =
    let exit = c.from_residual-in_err-revision in
    let p = err_from_is_err_and exit.result exit.ensures.1 in
    rw (p.1, p.2, ← c.changes.invariant.cell) (cause_of g.K.Shows.showing g.K.Kind.legal
    c.changes.self.cell c.changes.self.marked c.changes.self.pass c.changed.new.self.pass _
    c.in_err-revision.ensures.closed)

pub returns-in_err-revision-clause-pass : goal.returns-in_err-revision-clause-pass
returns-in_err-revision-clause-pass g c =
    sees_on _ _ _ c.changes.invariant.pass c.changed.ensures.pass

pub returns-then-f-2-clause-taken : goal.returns-then-f-2-clause-taken
returns-then-f-2-clause-taken g c =
    (_, _, called_at g.F.FnMut c.f-in-changes.ensures c.if-f-2.true)

pub changes-init : goal.changes-init
changes-init g c = record {
  next = tt;
  finite = tt;
  callable = mut_next g.F.FnMut _ _ _ _ _ c.f.ensures refl c.requires;
  cell = c.in_ok-current.ensures.cell;
  pass = c.in_ok-current.ensures.pass;
  marks = inl c.in_ok-current.ensures.marked;
}

pub changes-preserved : goal.changes-preserved
changes-preserved g c = record {
  next = tt;
  finite = tt;
  callable = mut_next g.F.FnMut _ _ _ _ _ c.f-in-changes.ensures refl c.changes.invariant.callable;
  cell = c.changed.ensures.cell ∙ c.changes.invariant.cell;
  pass = sees_on _ _ _ c.changes.invariant.pass c.changed.ensures.pass;
  marks = marks_now (IsRevisionBy g.K.Shows.showing) _ _ _ _ c.in_ok-revision.revision
      (sees_on _ _ _ c.changes.invariant.pass c.changed.ensures.pass)
      c.in_ok-revision.ensures.revision.0 c.in_ok-revision.ensures.revision.2;
}
