use Rattle.spf_feed.proofs.Alike.{material_differs}
use Rattle.spf_feed.proofs.laws.choice_makes_a_difference.Goals as goal

pub returns : goal.returns
returns c = material_differs
