use Rattle.std.proofs.Common.{◌≡◌, ◌≤◌, length, ◌+◌, ◌-◌, ◌^◌}
use Rattle.spf_proto.proofs.TakingLemmas.{SoFar}
use Rattle.spf_proto.proofs.taking.take_message.Given as goal

abbrev pub invariant-loop : goal.invariant-loop
invariant-loop g l =
    SoFar (g.T.LentSource.left l.initial.source) (g.T.LentSource.left l.source) l.initial.got
    l.got
    × (g.T.LentSource.failures l.initial.source ≤ g.T.LentSource.failures l.source)
    × (g.T.LentSource.loan l.source ≡ g.T.LentSource.loan l.initial.source)

abbrev pub decreases-loop : goal.decreases-loop
decreases-loop g l = 5 + 2 ^ 24 - length l.got
