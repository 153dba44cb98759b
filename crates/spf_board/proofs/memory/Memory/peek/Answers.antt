use Rattle.left_right.specs.Sides.{view}
use Rattle.spf_board.proofs.Reading.{peeks_in, peeks_kept}
use Rattle.spf_board.proofs.memory.Memory.peek.Goals.{in-Some-Some, in-None}
use Rattle.spf_board.proofs.memory.Memory.peek.Goals as goal

pub returns-clause-found : goal.returns-clause-found
returns-clause-found g c =
    let i = c.self.inside in
    let e = c.enter-reader in
    let finds = g.L.Look.finds c.args.look.now in
    elim c.match-found.branch [
      | in-Some-Some w ↦ rw (← c.self.view_is, w.result-is) (peeks_in g.K.Kind.legal
          g.K.Replay.replays finds i.seen i.entered e.new.entered i.missed e.new.missed
          (view c.args.reader.place) (view e.result.0.place) w.in-Some-Some.found
          c.self.invariant.1 e.ensures.entered
          (rw w.in-Some-Some.field-0-is at
          (rw w.in-Some-Some.is at e.ensures.found)) (rw w.in-Some-Some.is at e.ensures.once))
      | in-None w ↦ rw (← c.self.view_is, w.result-is) (peeks_kept g.K.Kind.legal
          g.K.Replay.replays finds i.seen i.entered e.new.entered i.missed e.new.missed
          (view c.args.reader.place) (view e.result.0.place) i.kept w.look.result c.self.invariant.2
          c.self.invariant.3 (rw w.in-None.is at e.ensures.missed).0 w.look.ensures)
    ]
