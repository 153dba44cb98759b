use Rattle.std.proofs.Common.{◌∙◌, map}
use Rattle.std.specs.Prelude.{string_bytes}
use Rattle.spf_program.specs.Pairs.{is_one_of}
use Rattle.spf_program.proofs.PairLemmas.{pairs_end}
use Rattle.spf_program.proofs.pairs.are_pairs.Goals as goal

pub returns : goal.returns
returns c =
    c.is_empty.ensures
    ∙ pairs_end string_bytes (is_one_of (map (λ n. n.now) c.args.names.now)) c.loop-rest.rest.now
    c.in_default.len_below
    ∙ c.loop-rest.invariant
