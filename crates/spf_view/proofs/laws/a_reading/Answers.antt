use Rattle.spf_view.proofs.ExistsLemmas.{has_reading}
use Rattle.spf_view.proofs.laws.a_reading.Goals as goal

pub returns : goal.returns
returns g c = λ s max_frames bytes. has_reading s max_frames bytes
