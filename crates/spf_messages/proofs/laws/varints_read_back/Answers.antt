use Rattle.spf_messages.proofs.VarintWritten.{varint_back}
use Rattle.spf_messages.proofs.laws.varints_read_back.Goals as goal

pub returns : goal.returns
returns c = varint_back
