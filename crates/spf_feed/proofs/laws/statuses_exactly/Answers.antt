use Rattle.spf_feed.proofs.TextLemmas.{status_exactly}
use Rattle.spf_feed.proofs.laws.statuses_exactly.Goals as goal

pub returns : goal.returns
returns c = λ bytes x are. status_exactly bytes x are
