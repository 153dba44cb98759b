use Rattle.spf_http2.proofs.CutLemmas.{read_back}
use Rattle.spf_http2.proofs.laws.frames_read_back.Goals as goal

pub returns : goal.returns
returns c = read_back
