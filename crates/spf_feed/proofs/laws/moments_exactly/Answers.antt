use Rattle.spf_feed.proofs.TextLemmas.{moment_exactly}
use Rattle.spf_feed.proofs.laws.moments_exactly.Goals as goal

pub returns : goal.returns
returns c = λ bytes x are. moment_exactly bytes x are
