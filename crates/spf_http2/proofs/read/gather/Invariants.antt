use Rattle.std.proofs.Common.{◌≡◌, ◌≤◌, ◌+◌, ◌-◌, length}
use Rattle.std.specs.Io.KnownBytes.{Keeps}
use Rattle.spf_http2.specs.Reading.{to_come, HasGrown}
use Rattle.spf_http2.proofs.read.gather.Given as goal

abbrev pub invariant-loop-buffer : goal.invariant-loop-buffer
invariant-loop-buffer g l = record {
  kept : Keeps (to_come l.fn.buffer (g.S.Source.left l.fn.source))
      (to_come l.buffer (g.S.Source.left l.source));
  grown : HasGrown l.fn.buffer.pending l.buffer.pending;
  room : l.count ≤ length l.buffer.pending + l.buffer.room;
  quiet : l.count ≤ length l.fn.buffer.pending
      → (l.source ≡ l.fn.source) × (l.buffer.pending ≡ l.fn.buffer.pending);
  later : g.S.Source.failures l.fn.source ≤ g.S.Source.failures l.source;
}

abbrev pub decreases-loop-buffer : goal.decreases-loop-buffer
decreases-loop-buffer g l = l.count - length l.buffer.pending
