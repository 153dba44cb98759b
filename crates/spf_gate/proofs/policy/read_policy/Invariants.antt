use Rattle.std.proofs.Common.{◌≡◌, ◌≤◌, ◌+◌, ◌-◌}
use Rattle.std.specs.Io.KnownBytes.{prepend_known}
use Rattle.spf_gate.proofs.PolicyLemmas.{SoFar}
use Rattle.spf_gate.proofs.policy.read_policy.Given as goal

abbrev pub invariant-loop-is_line : goal.invariant-loop-is_line
invariant-loop-is_line g l =
    SoFar l.initial.lines.max (l.initial.lines.number + 1)
    (prepend_known l.initial.lines.octets.items (g.S.Source.left l.initial.source))
    (prepend_known l.lines.octets.items (g.S.Source.left l.source)) l.lines.number l.rules.items
    × (l.lines.max ≡ l.initial.lines.max)
    × (g.S.Source.failures l.initial.source ≤ g.S.Source.failures l.source)

abbrev pub decreases-loop-is_line : goal.decreases-loop-is_line
decreases-loop-is_line g l = l.lines.max - l.lines.number
