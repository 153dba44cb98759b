use Rattle.spf_feed.proofs.ShownLemmas.{material_shown}
use Rattle.spf_feed.proofs.laws.same_material_is_shown_alike.Goals as goal

pub returns : goal.returns
returns c = material_shown
