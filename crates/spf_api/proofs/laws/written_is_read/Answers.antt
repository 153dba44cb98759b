use Rattle.spf_api.specs.Payload.{kind_of}
use Rattle.spf_api.proofs.Payloads.{written_is_found}
use Rattle.spf_api.proofs.laws.written_is_read.Goals as goal

pub returns : goal.returns
returns c = λ r bytes found laid read. written_is_found (kind_of r) bytes r found laid read
