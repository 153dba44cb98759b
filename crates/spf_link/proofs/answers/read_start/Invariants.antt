use Rattle.std.proofs.Common.{◌≤◌}
use Rattle.spf_link.proofs.PassedLemmas.{SoFar}
use Rattle.spf_link.proofs.answers.read_start.Given as goal

abbrev pub invariant-frames : goal.invariant-frames
invariant-frames g l =
    SoFar l.again (g.S.Source.left l.initial.source) (g.S.Source.left l.source)
    × (g.S.Source.failures l.initial.source ≤ g.S.Source.failures l.source)
