use Rattle.std.proofs.Common.{◌≡◌, All}
use Rattle.left_right.specs.Sides.{view}
use Rattle.spf_board.specs.Board.{IsBoundTo}
use Rattle.spf_board.proofs.opening.seats.Given as goal

abbrev pub invariant-loop : goal.invariant-loop
invariant-loop g l = record {
  seat : view l.writer.desk.place ≡ view l.initial.writer.desk.place;
  shown : l.writer.desk.shown ≡ l.initial.writer.desk.shown;
  log : l.writer.log ≡ l.initial.writer.log;
  behind : l.writer.behind ≡ l.initial.writer.behind;
  bound : All (λ r. IsBoundTo (view r.place) l.initial.writer.desk.shown.value.front.book)
      l.all.items;
}
