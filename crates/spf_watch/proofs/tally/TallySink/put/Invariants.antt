use Rattle.std.proofs.Common.{length, take, ◌-◌, ◌≡◌, ◌≤◌, ◌++◌}
use Rattle.spf_watch.proofs.tally.TallySink.put.Given as goal

abbrev pub invariant-loop-at : goal.invariant-loop-at
invariant-loop-at l =
    (l.at ≤ length l.piece) × (l.self.held ≡ l.initial.self.held ++ take l.at l.piece)
    × (l.self.failures ≡ l.initial.self.failures)

abbrev pub decreases-loop-at : goal.decreases-loop-at
decreases-loop-at l = length l.piece - l.at
