use Rattle.spf_feed.proofs.TextLemmas.{failure_exactly}
use Rattle.spf_feed.proofs.laws.failures_exactly.Goals as goal

pub returns : goal.returns
returns c = λ bytes x are. failure_exactly bytes x are
