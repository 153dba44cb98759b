use Rattle.std.proofs.Common.{◌≤◌, ◌-◌, length, take}
use Rattle.std.specs.Io.KnownBytes.{Consumes}
use Rattle.spf_frame.proofs.payload.read_growing.Given as goal

abbrev pub invariant-loop-filled : goal.invariant-loop-filled
invariant-loop-filled g l =
    (l.filled ≤ length l.octets.items)
    × (length l.octets.items ≤ l.total)
    × Consumes (g.S.Source.left l.initial.source) (g.S.Source.left l.source)
    (take l.filled l.octets.items)
    × (g.S.Source.failures l.initial.source ≤ g.S.Source.failures l.source)

abbrev pub decreases-loop-filled : goal.decreases-loop-filled
decreases-loop-filled g l = l.total - l.filled
