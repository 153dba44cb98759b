use Rattle.spf_der.proofs.Exact.{one_cut}
use Rattle.spf_der.proofs.laws.one_cut.Goals as goal

pub returns : goal.returns
returns c = one_cut
