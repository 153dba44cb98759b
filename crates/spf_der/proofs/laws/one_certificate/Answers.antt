use Rattle.spf_der.proofs.Exact.{one_certificate}
use Rattle.spf_der.proofs.laws.one_certificate.Goals as goal

pub returns : goal.returns
returns c = one_certificate
