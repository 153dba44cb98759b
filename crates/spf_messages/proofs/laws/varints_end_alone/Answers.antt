use Rattle.spf_messages.proofs.VarintLemmas.{ends_alone}
use Rattle.spf_messages.proofs.laws.varints_end_alone.Goals as goal

pub returns : goal.returns
returns c = ends_alone 10
