use Rattle.spf_x509.proofs.CutLaws.{key_is_text}
use Rattle.spf_x509.proofs.laws.key_is_text.Goals as goal

pub returns : goal.returns
returns c = key_is_text
