use Rattle.spf_api.proofs.Payloads.{one_reading}
use Rattle.spf_api.proofs.laws.one_reading.Goals as goal

pub returns : goal.returns
returns c = one_reading
