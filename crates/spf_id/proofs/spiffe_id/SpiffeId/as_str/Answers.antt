use Rattle.spf_id.proofs.Ascii.{id_ascii}
use Rattle.spf_id.proofs.spiffe_id.SpiffeId.as_str.Goals as goal

pub returns-clause-ascii : goal.returns-clause-ascii
returns-clause-ascii c =
    rw (c.as_str.ensures, c.self.invariant.text)
    (id_ascii c.self.inside.text _ c.self.invariant.rule)
