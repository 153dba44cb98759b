use Rattle.std.proofs.Common.{◌≡◌, ◌⊎◌, sym, ap, ◌∙◌, subst}
use Rattle.spf_board.specs.declared.entry.Entry.TheVariants as entry
use Rattle.spf_board.specs.Past.{added}
use Rattle.spf_board.specs.Writers.{past_in}
use Rattle.spf_board.proofs.Publishing.{same_book}
use Rattle.spf_board.proofs.desk.Desk.end.Goals as goal

pub returns-clause-ended : goal.returns-clause-ended
returns-clause-ended g c =
    let past = g.W.Writes.past in
    let here : past c.in-Some.held ≡ c.args.self =
    ap (past_in past) (sym c.in-Some.is) ∙ c.self.view_is in
    let new = past c.end-held.result.0 in
    subst (λ p. (new ≡ added p entry.End) ⊎ (new ≡ p)) here c.end-held.ensures.ended

pub returns-clause-book : goal.returns-clause-book
returns-clause-book g c =
    let past = g.W.Writes.past in
    let here : past c.in-Some.held ≡ c.args.self =
    ap (past_in past) (sym c.in-Some.is) ∙ c.self.view_is in
    same_book (past c.in-Some.held) (past c.end-held.result.0) entry.End c.end-held.ensures.ended
    ∙ ap (λ p. p.book) here
