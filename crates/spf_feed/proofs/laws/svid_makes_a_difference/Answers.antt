use Rattle.spf_feed.proofs.Differences.{svid_differs}
use Rattle.spf_feed.proofs.laws.svid_makes_a_difference.Goals as goal

pub returns : goal.returns
returns c = svid_differs
