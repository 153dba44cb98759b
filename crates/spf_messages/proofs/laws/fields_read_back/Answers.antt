use Rattle.spf_messages.proofs.Written.{field_back}
use Rattle.spf_messages.proofs.laws.fields_read_back.Goals as goal

pub returns : goal.returns
returns c = field_back
