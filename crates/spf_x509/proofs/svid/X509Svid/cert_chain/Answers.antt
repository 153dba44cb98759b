use Rattle.std.proofs.Common.{subst}
use Rattle.spf_x509.specs.Chain.{IsSvid}
use Rattle.spf_x509.proofs.svid.X509Svid.cert_chain.Goals as goal

pub returns-clause-parsed : goal.returns-clause-parsed
returns-clause-parsed c = subst IsSvid c.self.view_is c.self.invariant.1
