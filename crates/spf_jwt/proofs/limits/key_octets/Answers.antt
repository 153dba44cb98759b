use Rattle.spf_jwt.proofs.Octets.{ended}
use Rattle.spf_jwt.proofs.limits.key_octets.Goals as goal

pub returns : goal.returns
returns c =
    ended c.loop-authority.total _ c.loop-authority.authority-iterator
    c.loop-authority.invariant.small c.in-None.ensures.steps.0 c.loop-authority.invariant.is
