use Rattle.std.proofs.Common.{◌≡◌}
use Rattle.spiffe_bench.proofs.storm.read_until.Given as goal

abbrev pub invariant-reads : goal.invariant-reads
invariant-reads g l = l.pass.book ≡ l.source.board
