use Rattle.spf_view.proofs.FrameLemmas.{frames_same}
use Rattle.spf_view.proofs.laws.frames_are_cut_in_one_way.Goals as goal

pub returns : goal.returns
returns c = frames_same
