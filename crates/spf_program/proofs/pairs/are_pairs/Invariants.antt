use Rattle.std.proofs.Common.{◌≡◌, length, map}
use Rattle.std.specs.Prelude.{string_bytes}
use Rattle.spf_program.specs.Pairs.{are_pairs, is_one_of}
use Rattle.spf_program.proofs.pairs.are_pairs.Given as goal

abbrev pub invariant-loop-rest : goal.invariant-loop-rest
invariant-loop-rest l =
    are_pairs (is_one_of (map (λ n. n.now) l.names)) (map string_bytes l.rest)
    ≡ are_pairs (is_one_of (map (λ n. n.now) l.names)) (map string_bytes l.arguments)

abbrev pub decreases-loop-rest : goal.decreases-loop-rest
decreases-loop-rest l = length l.rest
