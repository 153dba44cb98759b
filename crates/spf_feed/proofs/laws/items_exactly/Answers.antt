use Rattle.spf_feed.proofs.TextLemmas.{item_exactly}
use Rattle.spf_feed.proofs.laws.items_exactly.Goals as goal

pub returns : goal.returns
returns c = λ bytes x are. item_exactly bytes x are
