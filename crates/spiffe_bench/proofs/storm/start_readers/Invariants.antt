use Rattle.std.proofs.Common.{◌≡◌}
use Rattle.spiffe_bench.proofs.storm.start_readers.Given as goal

abbrev pub invariant-threads : goal.invariant-threads
invariant-threads g l = l.pass.book ≡ l.source.board
