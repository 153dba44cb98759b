use Rattle.spf_view.proofs.AllSteps.{steps_all}
use Rattle.spf_view.proofs.laws.steps_of_a_session.Goals as goal

pub returns : goal.returns
returns g c = λ t s es none. steps_all t s es none
