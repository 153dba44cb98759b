use Rattle.spf_der.proofs.ExtensionTexts.{usage_exact, constraints_exact, names_exact}
use Rattle.spf_der.proofs.laws.extension_is_text.Goals as goal

pub returns-clause-key_usage : goal.returns-clause-key_usage
returns-clause-key_usage c = usage_exact

pub returns-clause-basic_constraints : goal.returns-clause-basic_constraints
returns-clause-basic_constraints c = constraints_exact

pub returns-clause-names : goal.returns-clause-names
returns-clause-names c = names_exact
