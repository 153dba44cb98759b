use Rattle.std.proofs.Common.{◌≡◌}
use Rattle.spf_board.specs.Passing.{MarksOnBy, SeesNoLess}
use Rattle.spf_board.specs.Showing.{IsRevisionBy}
use Rattle.spf_board.proofs.updates.SourceUpdates.wait_for.Given as goal

abbrev pub invariant-changes : goal.invariant-changes
invariant-changes g l = record {
  next : (goal.iterator-changes g).can_next l.iterator';
  finite : (goal.iterator-changes g).is_finite l.iterator';
  callable : goal.F-IsAlwaysCallable g l.f;
  cell : l.self.cell ≡ l.fn.self.cell;
  pass : SeesNoLess l.fn.self.pass l.self.pass;
  marks : MarksOnBy (IsRevisionBy g.K.Shows.showing) l.fn.self.pass l.fn.self.marked l.self.pass
      l.self.marked;
}
