use Rattle.spf_x509.proofs.CutLaws.{chain_too_long}
use Rattle.spf_x509.proofs.Cuts.{chain_exact}
use Rattle.spf_x509.proofs.laws.chain_is_certificates.Goals as goal

pub returns-clause-read : goal.returns-clause-read
returns-clause-read c = chain_exact

pub returns-clause-too_many : goal.returns-clause-too_many
returns-clause-too_many c = chain_too_long
