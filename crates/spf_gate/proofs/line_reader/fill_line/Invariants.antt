use Rattle.std.proofs.Common.{◌-◌, ◌≤◌, length}
use Rattle.spf_gate.specs.Reading.{Adds}
use Rattle.spf_gate.proofs.line_reader.fill_line.Given as goal

abbrev pub invariant-loop-octets : goal.invariant-loop-octets
invariant-loop-octets g l =
    Adds (g.S.Source.left l.initial.source) (g.S.Source.left l.source) l.initial.octets.items
    l.octets.items
    × (g.S.Source.failures l.initial.source ≤ g.S.Source.failures l.source)

abbrev pub decreases-loop-octets : goal.decreases-loop-octets
decreases-loop-octets g l = 4097 - length l.octets.items
