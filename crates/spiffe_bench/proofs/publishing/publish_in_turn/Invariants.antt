use Rattle.std.proofs.Common.{◌≢◌, []}
use Rattle.spf_board.specs.Lists.{steps_of}
use Rattle.spiffe_bench.proofs.publishing.publish_in_turn.Given as goal

abbrev pub invariant-publishing : goal.invariant-publishing
invariant-publishing g l = steps_of l.desk.list ≢ []
