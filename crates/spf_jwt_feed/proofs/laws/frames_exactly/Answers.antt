use Rattle.spf_jwt_feed.proofs.TextLemmas.{frame_exactly}
use Rattle.spf_jwt_feed.proofs.laws.frames_exactly.Goals as goal

pub returns : goal.returns
returns c = λ rules past bytes e are. frame_exactly rules past bytes e are
