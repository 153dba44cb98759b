use Rattle.std.proofs.Common.{rules}
use Rattle.spf_gate.proofs.PolicyLemmas.{nearer}
use Rattle.spf_gate.proofs.policy.read_policy.Goals as goal

pub loop-is_line-smaller : goal.loop-is_line-smaller
loop-is_line-smaller g c =
    nearer _ _ _ _ _ _ _ c.in-Ok.is_line c.in-Ok.ensures.takes (search rules) c.in-Ok.ensures.number
    c.in-Ok.ensures.max
