use Rattle.spf_der.proofs.Keys.{key_exact}
use Rattle.spf_der.proofs.laws.key_is_text.Goals as goal

pub returns : goal.returns
returns c = key_exact
