use Rattle.spf_x509.proofs.CutLaws.{certificate_exact, certificate_refused}
use Rattle.spf_x509.proofs.laws.certificate_is_text.Goals as goal

pub returns-clause-taken : goal.returns-clause-taken
returns-clause-taken c = certificate_exact

pub returns-clause-refused : goal.returns-clause-refused
returns-clause-refused c = certificate_refused
