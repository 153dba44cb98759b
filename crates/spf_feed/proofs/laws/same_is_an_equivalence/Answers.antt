use Rattle.spf_feed.proofs.Alike.{material_equiv}
use Rattle.spf_feed.proofs.laws.same_is_an_equivalence.Goals as goal

pub returns : goal.returns
returns c = material_equiv
