use Rattle.spf_proto.proofs.TranslatingLemmas.{client_is}
use Rattle.spf_proto.proofs.translating.frames_before.Goals as goal

pub returns-else-is_open : goal.returns-else-is_open
returns-else-is_open c = rw c.if-is_open.false client_is
