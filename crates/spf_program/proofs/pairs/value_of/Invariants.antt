use Rattle.std.proofs.Common.{◌≡◌, ◌++◌, length, map}
use Rattle.std.specs.Prelude.{string_bytes}
use Rattle.std.specs.Option.{option_copied}
use Rattle.spf_program.specs.Pairs.{values_of}
use Rattle.spf_program.proofs.PairLemmas.{found_list}
use Rattle.spf_program.proofs.pairs.value_of.Given as goal

abbrev pub invariant-loop-rest : goal.invariant-loop-rest
invariant-loop-rest l =
    values_of l.option (map string_bytes l.arguments)
    ≡ found_list (option_copied l.found) ++ values_of l.option (map string_bytes l.rest)

abbrev pub decreases-loop-rest : goal.decreases-loop-rest
decreases-loop-rest l = length l.rest
