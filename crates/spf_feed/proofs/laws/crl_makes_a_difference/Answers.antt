use Rattle.spf_feed.proofs.Differences.{crl_differs}
use Rattle.spf_feed.proofs.laws.crl_makes_a_difference.Goals as goal

pub returns : goal.returns
returns c = crl_differs
