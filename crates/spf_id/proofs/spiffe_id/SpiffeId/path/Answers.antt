use Rattle.spf_id.proofs.Ids.{boundary}
use Rattle.spf_id.proofs.spiffe_id.SpiffeId.path.Goals as goal

pub split_at-requires : goal.split_at-requires
split_at-requires c =
    rw (c.as_str.ensures, c.as_str-2.ensures) (boundary c.self.inside.text _ c.self.invariant)
