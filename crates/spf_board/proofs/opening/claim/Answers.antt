use Rattle.std.proofs.Common.{drop}
use Rattle.left_right.specs.Sides.{view}
use Rattle.spf_board.proofs.Keeping.{claims}
use Rattle.spf_board.proofs.opening.claim.Goals as goal

pub publish_as-writer-requires : goal.publish_as-writer-requires
publish_as-writer-requires g c =
    let w = c.args.writer in
    claims g.K.Replay.replays (λ p. p.snapshot) (λ p. p.front) _ (drop w.behind w.log.items)
    w.desk.place.id (view w.desk.place) w.desk.shown.value c.requires.rested
