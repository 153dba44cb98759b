use Rattle.spf_api.proofs.Payloads.{one_writing}
use Rattle.spf_api.proofs.laws.one_writing.Goals as goal

pub returns : goal.returns
returns c = one_writing
