use Rattle.spf_messages.proofs.Written.{validation_request_back}
use Rattle.spf_messages.proofs.laws.validation_requests_read_back.Goals as goal

pub returns : goal.returns
returns c = validation_request_back
