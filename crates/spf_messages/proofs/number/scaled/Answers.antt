use Rattle.std.proofs.Common.{◌<◌, ◌^◌, arith}
use Rattle.spf_messages.specs.Numbers.{scaled}
use Rattle.spf_messages.proofs.NumberLemmas.{none_holds, scaled_large, scaled_small}
use Rattle.spf_messages.proofs.number.scaled.Goals as goal

pub returns-then-power-gt11-clause-other : goal.returns-then-power-gt11-clause-other
returns-then-power-gt11-clause-other c = λ none.
    scaled_large c.args.significand c.args.power (c.requires.normal (omega arith)) (omega arith)
    (omega arith)

pub returns-then-power-gt52-clause-other : goal.returns-then-power-gt52-clause-other
returns-then-power-gt52-clause-other c = λ none.
    none_holds (λ n. 2 ^ 63 < n) (scaled c.args.significand c.args.power)
    (scaled_small c.args.significand c.args.power (omega arith) c.requires.significand (omega arith)
    (omega arith))
