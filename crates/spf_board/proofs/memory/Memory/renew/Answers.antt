use Rattle.left_right.specs.Sides.{view}
use Rattle.spf_board.proofs.Reading.{keeps_taken, renews_in}
use Rattle.spf_board.proofs.memory.Memory.renew.Goals as goal

pub returns-in-Some-Some-Ok-clause-keeps : goal.returns-in-Some-Some-Ok-clause-keeps
returns-in-Some-Some-Ok-clause-keeps g c =
    let i = c.self.inside in
    let e = c.enter-reader in
    rw (← c.self.view_is) (keeps_taken i.seen i.entered e.new.entered c.again.result i.missed
    e.new.missed c.again.ensures.same c.self.invariant.0 e.ensures.book c.self.invariant.1
    e.ensures.entered)

pub returns-in-Some-Some-Ok-clause-ok : goal.returns-in-Some-Some-Ok-clause-ok
returns-in-Some-Some-Ok-clause-ok g c =
    let i = c.self.inside in
    let e = c.enter-reader in
    let read = c.in-Some-Some-Ok in
    rw (← c.self.view_is) (renews_in g.K.Kind.legal g.K.Replay.replays _ i.seen i.entered
    e.new.entered c.again.result i.missed e.new.missed (view c.args.reader.place)
    (view e.result.0.place) read.field-0-0 c.again.ensures.same c.self.invariant.1
    e.ensures.entered (rw read.field-0-is at (rw read.is at e.ensures.found))
    (rw read.is at e.ensures.once))
