use Rattle.std.proofs.Common.{length, take, ◌-◌, ◌≡◌, ◌≤◌}
use Rattle.std.specs.Io.KnownBytes.{Appends}
use Rattle.spf_io.proofs.sink.StdSinkSink.put.Given as goal

abbrev pub invariant-loop-at : goal.invariant-loop-at
invariant-loop-at g l =
    (l.at ≤ length l.piece)
    × Appends (g.W.Write.contents l.initial.self.writer) (g.W.Write.contents l.self.writer)
    (take l.at l.piece) × (l.self.failed ≡ l.initial.self.failed)

abbrev pub decreases-loop-at : goal.decreases-loop-at
decreases-loop-at g l = length l.piece - l.at
