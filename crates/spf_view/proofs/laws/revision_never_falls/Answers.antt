use Rattle.spf_view.proofs.GrowthLemmas.{never_falls}
use Rattle.spf_view.proofs.laws.revision_never_falls.Goals as goal

pub returns : goal.returns
returns g c = λ eq steps more. never_falls eq steps more
