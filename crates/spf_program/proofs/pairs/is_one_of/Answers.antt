use Rattle.std.proofs.Common.{◌∙◌}
use Rattle.spf_program.proofs.PairLemmas.{any_is_one}
use Rattle.spf_program.proofs.pairs.is_one_of.Goals as goal

pub returns : goal.returns
returns c = c.contains.ensures.value ∙ any_is_one c.args.names.now c.args.text.now
