use Rattle.std.proofs.Common.{◌≡◌, ◌++◌, length}
use Rattle.spf_export.specs.Pem.{lines_of}
use Rattle.spf_export.proofs.pem.put_lines.Given as goal

abbrev pub invariant-loop-rest : goal.invariant-loop-rest
invariant-loop-rest l = l.out.items ++ lines_of l.rest ≡ l.initial.out.items ++ lines_of l.text

abbrev pub decreases-loop-rest : goal.decreases-loop-rest
decreases-loop-rest l = length l.rest
