use Rattle.std.proofs.Common.{◌≡◌, drop}
use Rattle.left_right.specs.Sides.{view}
use Rattle.spf_board.specs.Past.{added}
use Rattle.spf_board.specs.Posted.{entry_of}
use Rattle.spf_board.proofs.Keeping.{pushes}
use Rattle.spf_board.proofs.writer.push.Goals as goal

pub publish_as-writer-requires : goal.publish_as-writer-requires
publish_as-writer-requires g c =
    let w = c.append.new.self in
    let follows : c.args.post.front ≡ added w.desk.shown.value.front (entry_of c.args.post.change) =
    rw c.append.ensures.desk c.requires.follows in
    pushes g.K.Replay.replays g.K.Replay.after g.met.K.Replay.replays_after
    (λ p. p.snapshot) (λ p. p.front) (λ p. p.change) (λ p. p.front)
    c.args.post _ (drop w.behind w.log.items) w.desk.place.id (view w.desk.place) w.desk.shown.value
    c.requires.rested c.in-Ok.ensures.pending follows
