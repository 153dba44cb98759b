use Rattle.spf_board.specs.Passing.{SeesNoLess}
use Rattle.spf_board.proofs.updates.await_change.Given as goal

abbrev pub invariant-looks : goal.invariant-looks
invariant-looks g l = record {
  next : (goal.iterator-looks g).can_next l.iterator';
  finite : (goal.iterator-looks g).is_finite l.iterator';
  pass : SeesNoLess l.initial.pass l.pass;
}
