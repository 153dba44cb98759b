use Rattle.std.proofs.Common.{◌≡◌, ◌≤◌, ◌+◌, ◌-◌}
use Rattle.std.specs.Io.KnownBytes.{prepend_known}
use Rattle.spiffe.specs.Reads.{SeesNoLess}
use Rattle.spf_gate.proofs.ServeLemmas.{Asking}
use Rattle.spf_gate.proofs.serve.answer_asks.Given as goal

abbrev pub invariant-loop-is_line : goal.invariant-loop-is_line
invariant-loop-is_line g l =
    Asking l.initial.lines.max (l.initial.lines.number + 1)
    (prepend_known l.initial.lines.octets.items (g.S.Source.left l.initial.input))
    (prepend_known l.lines.octets.items (g.S.Source.left l.input)) l.rules l.initial.pass
    l.pass (g.K.Sink.held l.initial.out) (g.K.Sink.held l.out) l.lines.number
    × (l.lines.max ≡ l.initial.lines.max)
    × SeesNoLess l.initial.pass l.pass
    × (g.S.Source.failures l.initial.input ≤ g.S.Source.failures l.input)
    × (g.K.Sink.failures l.initial.out ≤ g.K.Sink.failures l.out)
    × (l.before ≡ l.initial.lines.number)

abbrev pub decreases-loop-is_line : goal.decreases-loop-is_line
decreases-loop-is_line g l = l.lines.max - l.lines.number
