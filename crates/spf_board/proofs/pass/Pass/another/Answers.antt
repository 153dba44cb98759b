use Rattle.std.proofs.lemmas.List.Elements.{All-pop}
use Rattle.left_right.specs.Sides.{view}
use Rattle.spf_board.specs.Board.{IsBoundTo}
use Rattle.spf_board.proofs.pass.Pass.another.Goals as goal

pub invariant_of-self : goal.invariant_of-self
invariant_of-self g c = (
  c.self.invariant.0,
  (All-pop (λ r. IsBoundTo (view r.place) c.self.inside.memory.book) _ _ _ c.pop.ensures.items
      c.self.invariant.1).0,
  c.self.invariant.2,
)

pub invariant_of-self-2 : goal.invariant_of-self-2
invariant_of-self-2 g c = (
  c.self.invariant.0,
  (All-pop (λ r. IsBoundTo (view r.place) c.self.inside.memory.book) _ _ _ c.pop.ensures.items
      c.self.invariant.1).0,
  c.self.invariant.2,
)

pub new-requires-2-clause-reader : goal.new-requires-2-clause-reader
new-requires-2-clause-reader g c =
    let rest = All-pop (λ r. IsBoundTo (view r.place) c.self.inside.memory.book) _ _ _
    c.pop.ensures.items c.self.invariant.1 in
    rw c.in-Ok.ensures (rw c.in-Some.is at rest.1)
