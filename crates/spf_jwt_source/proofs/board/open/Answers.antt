use Rattle.std.proofs.Common.{IfSome, ap, ◌∙◌, sym, subst}
use Rattle.std.proofs.lemmas.List.Elements.{All-pop}
use Rattle.left_right.specs.Sides.{view}
use Rattle.spf_board.proofs.Prefixes.{first_unended}
use Rattle.spf_board.specs.Board.{IsBoundTo}
use Rattle.spf_jwt_source.proofs.board.open.Goals as goal

pub new-requires-clause-unended : goal.new-requires-clause-unended
new-requires-clause-unended g c =
    first_unended c.new-held.result.list c.args.step
    (ap (λ p. p.list) c.new-held.ensures.same ∙ c.in_ok-writer.ensures.step)

pub new-requires-2-clause-reader : goal.new-requires-2-clause-reader
new-requires-2-clause-reader g c =
    let book = c.in_ok-writer.writer.desk.shown.value.front.book in
    let popped = All-pop (λ r. IsBoundTo (view r.place) book) c.in_ok-writer.readers.items
    c.pop.new.self.items c.pop.result c.pop.ensures.items c.in_ok-writer.ensures.bound in
    let bound : IsBoundTo (view c.in-Some.reader.place) book =
    subst (λ o. IfSome o (λ r. IsBoundTo (view r.place) book)) c.in-Some.is popped.1 in
    subst (λ b. IsBoundTo (view c.in-Some.reader.place) b)
    (ap (λ m. m.book) (sym c.in_ok-writer.ensures.memory)) bound
