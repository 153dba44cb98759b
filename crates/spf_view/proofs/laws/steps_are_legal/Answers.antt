use Rattle.spf_view.proofs.EventLemmas.{steps_legal}
use Rattle.spf_view.proofs.laws.steps_are_legal.Goals as goal

pub returns : goal.returns
returns g c = λ s events some. steps_legal s events some
