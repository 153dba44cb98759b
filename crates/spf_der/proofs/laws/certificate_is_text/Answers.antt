use Rattle.spf_der.proofs.Exact.{certificate_found, certificate_refused, certificate_followed}
use Rattle.spf_der.proofs.laws.certificate_is_text.Goals as goal

pub returns-clause-found : goal.returns-clause-found
returns-clause-found c = certificate_found

pub returns-clause-refused : goal.returns-clause-refused
returns-clause-refused c = certificate_refused

pub returns-clause-followed : goal.returns-clause-followed
returns-clause-followed c = certificate_followed
