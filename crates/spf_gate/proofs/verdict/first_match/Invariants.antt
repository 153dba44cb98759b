use Rattle.std.proofs.Common.{◌≡◌, ◌+◌, drop}
use Rattle.spf_gate.specs.Verdicts.{first_match}
use Rattle.spf_gate.proofs.verdict.first_match.Given as goal

abbrev pub invariant-loop-index : goal.invariant-loop-index
invariant-loop-index l =
    first_match (l.index + 1) (drop l.index l.rules) l.id ≡ first_match 1 l.rules l.id
