use Rattle.spf_view.proofs.SessionLemmas.{reading_same}
use Rattle.spf_view.proofs.laws.one_reading.Goals as goal

pub returns : goal.returns
returns g c =
    λ s max_frames bytes es fs rest other. reading_same s max_frames bytes es fs rest other
