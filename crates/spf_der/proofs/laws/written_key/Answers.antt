use Rattle.spf_der.proofs.WrittenTexts.{key_written}
use Rattle.spf_der.proofs.laws.written_key.Goals as goal

pub returns : goal.returns
returns c = key_written
