use Rattle.spf_feed.proofs.TextLemmas.{text_exactly}
use Rattle.spf_feed.proofs.laws.fields_exactly.Goals as goal

pub returns : goal.returns
returns c = λ bytes x are. text_exactly bytes x are
