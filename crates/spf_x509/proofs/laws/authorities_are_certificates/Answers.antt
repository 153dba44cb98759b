use Rattle.spf_x509.proofs.CutLaws.{authorities_refused}
use Rattle.spf_x509.proofs.Cuts.{authorities_exact}
use Rattle.spf_x509.proofs.laws.authorities_are_certificates.Goals as goal

pub returns-clause-read : goal.returns-clause-read
returns-clause-read c = authorities_exact

pub returns-clause-refused : goal.returns-clause-refused
returns-clause-refused c = authorities_refused
