use Rattle.spf_feeder.proofs.Leaving.{same_steps}
use Rattle.spf_jwt_source.proofs.publishing.ended.Goals as goal

pub returns-else-is_refused : goal.returns-else-is_refused
returns-else-is_refused g c =
    record { board = (c.end.ensures.book, same_steps _ _ c.end.ensures.ended) }
