use Rattle.spf_messages.proofs.Written.{jwt_svid_request_back}
use Rattle.spf_messages.proofs.laws.jwt_svid_requests_read_back.Goals as goal

pub returns : goal.returns
returns c = jwt_svid_request_back
