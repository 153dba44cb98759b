use Rattle.spf_der.proofs.WrittenTexts.{reads_back}
use Rattle.spf_der.proofs.laws.written_certificate.Goals as goal

pub returns : goal.returns
returns c = reads_back
