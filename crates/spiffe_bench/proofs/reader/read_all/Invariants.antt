use Rattle.std.proofs.Common.{◌≡◌}
use Rattle.spiffe_bench.proofs.reader.read_all.Given as goal

abbrev pub invariant-reads : goal.invariant-reads
invariant-reads l = l.pass.book ≡ l.source.board
