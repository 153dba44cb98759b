use Rattle.std.proofs.Common.{refl}
use Rattle.spf_feeder.proofs.Recording.{left_as_promised}
use Rattle.spf_board_tests.proofs.jwt_threads.on_thread.JwtOnThreadJoinsJwtAgentJob.join.Goals as goal

pub returns : goal.returns
returns g c = left_as_promised _ _ _ _ _ _ _ refl c.args.self.promised c.join.ensures
