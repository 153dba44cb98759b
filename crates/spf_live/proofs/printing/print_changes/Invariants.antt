use Rattle.std.proofs.Common.{◌≤◌, ℕ, List, Option, Some}
use Rattle.spiffe.specs.Reads.{IsRevision, SeesNoLess}
use Rattle.spf_live.specs.Printing.{Moments, Printed}
use Rattle.spiffe.specs.Passes.{Seen}
use Rattle.spf_live.proofs.printing.print_changes.Given as goal

abbrev pub invariant-changes : goal.invariant-changes
invariant-changes g l =
    ((first : Seen) (start : Moments) (empty : Option (List ℕ))
    → Printed first l.initial.updates.pass.seen (Some l.initial.updates.marked) 1 start
    (g.T.Clock.moments l.initial.clock) empty (g.K.Sink.held l.initial.out)
    → Printed first l.updates.pass.seen (Some l.updates.marked) l.counter start
    (g.T.Clock.moments l.clock) empty (g.K.Sink.held l.out))
    × SeesNoLess l.initial.updates.pass l.updates.pass
    × IsRevision l.updates.pass l.updates.marked
    × (g.K.Sink.failures l.initial.out ≤ g.K.Sink.failures l.out)
