use Rattle.std.proofs.Common.{◌≢◌, []}
use Rattle.spf_board.specs.Lists.{steps_of}
use Rattle.spiffe_bench.proofs.storm.publish_rounds.Given as goal

abbrev pub invariant-rounds : goal.invariant-rounds
invariant-rounds g l = steps_of l.desk.list ≢ []
