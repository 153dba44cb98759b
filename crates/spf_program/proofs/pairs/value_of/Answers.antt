use Rattle.std.specs.Option.{option_copied}
use Rattle.std.specs.Prelude.{string_bytes}
use Rattle.spf_program.proofs.PairLemmas.{found_all, values_none}
use Rattle.spf_program.proofs.pairs.value_of.Goals as goal

pub returns : goal.returns
returns c =
    let none = values_none string_bytes c.args.option.now c.loop-rest.rest.now
    c.in_default.len_below in
    rw (c.loop-rest.invariant, none) (found_all (option_copied c.loop-rest.found))
