use Rattle.std.proofs.Common.{rules}
use Rattle.spf_board.proofs.Keeping.{admits, forks, merges}
use Rattle.spf_board.proofs.opening.seat.Goals as goal

pub reader-requires : goal.reader-requires
reader-requires g c = admits g.K.Replay.replays (λ p. p.snapshot) (λ p. p.front)

pub tell-requires : goal.tell-requires
tell-requires g c = forks g.K.Replay.replays (λ p. p.snapshot) (λ p. p.front) _ _

pub learn-requires : goal.learn-requires
learn-requires g c = record {
  own = search rules;
  rule = merges g.K.Replay.replays (λ p. p.snapshot) (λ p. p.front) _ _ _ _;
}
