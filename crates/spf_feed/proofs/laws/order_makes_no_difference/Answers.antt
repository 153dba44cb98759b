use Rattle.spf_feed.proofs.Alike.{material_reordered}
use Rattle.spf_feed.proofs.laws.order_makes_no_difference.Goals as goal

pub returns : goal.returns
returns c = material_reordered
