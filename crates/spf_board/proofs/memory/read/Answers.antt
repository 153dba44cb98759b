use Rattle.spf_board.proofs.Keeping.{takes}
use Rattle.spf_board.proofs.memory.read.Goals as goal

pub enter_as-requires : goal.enter_as-requires
enter_as-requires g c = takes g.K.Replay.replays (λ p. p.snapshot) (λ p. p.front) _ _
