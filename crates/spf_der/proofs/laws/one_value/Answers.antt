use Rattle.spf_der.proofs.Values.{value_exact, one_value}
use Rattle.spf_der.proofs.laws.one_value.Goals as goal

pub returns-clause-read : goal.returns-clause-read
returns-clause-read c = value_exact

pub returns-clause-one : goal.returns-clause-one
returns-clause-one c = one_value
