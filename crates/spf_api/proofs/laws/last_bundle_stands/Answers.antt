use Rattle.spf_api.proofs.Last.{last_stands}
use Rattle.spf_api.proofs.laws.last_bundle_stands.Goals as goal

pub returns : goal.returns
returns c = last_stands
