use Rattle.std.proofs.Common.{◌≡◌, ◌∷◌, ◌++◌, [], false, OnOk, IsSomeAnd, sym, ap, ◌∙◌, subst}
use Rattle.spf_board.specs.declared.entry.Entry.TheVariants as entry
use Rattle.spf_board.specs.Lists.{steps_of, is_ended, IsBoardList}
use Rattle.spf_board.specs.Past.{added}
use Rattle.spf_board.specs.Writers.{past_in}
use Rattle.spf_board.proofs.Publishing.{unended_by, book_by}
use Rattle.spf_board.proofs.desk.Desk.put.Goals as goal

pub put-held-requires-clause-legal : goal.put-held-requires-clause-legal
put-held-requires-clause-legal g c =
    let past = g.W.Writes.past in
    let same = sym c.take.ensures.value ∙ c.in-Some.is in
    let here : c.args.self.now ≡ past c.in-Some.held = sym c.self.view_is ∙ ap (past_in past) same
    in
    let open_is = subst
    (λ o. IsSomeAnd o (λ w. (is_ended (past w).list ≡ false)
    × IsBoardList g.K.Kind.legal (past w).list)) same
    c.self.invariant in
    subst (λ p. g.K.Kind.legal (steps_of p.list)
    → g.K.Kind.legal (steps_of p.list ++ c.args.step ∷ [])) here c.requires open_is.1.steps

pub invariant_of-self : goal.invariant_of-self
invariant_of-self g c =
    let past = g.W.Writes.past in
    let here = sym c.take.ensures.value ∙ c.in-Some.is in
    let open_is = subst
    (λ o. IsSomeAnd o (λ w. (is_ended (past w).list ≡ false)
    × IsBoardList g.K.Kind.legal (past w).list)) here
    c.self.invariant in (
      unended_by c.put-held.result.1 (past c.in-Some.held) (past c.put-held.result.0) c.args.step
          c.put-held.ensures.ok c.put-held.ensures.err open_is.0,
      c.put-held.ensures.board,
    )

pub returns-clause-ok : goal.returns-clause-ok
returns-clause-ok g c =
    let past = g.W.Writes.past in
    let here : c.args.self.now ≡ past c.in-Some.held =
    sym c.self.view_is ∙ ap (past_in past) (sym c.take.ensures.value ∙ c.in-Some.is) in
    subst (λ p. OnOk c.put-held.result.1
    (past c.put-held.result.0 ≡ added p (entry.Step c.args.step))) (sym here)
    c.put-held.ensures.ok

pub returns-clause-book : goal.returns-clause-book
returns-clause-book g c =
    let past = g.W.Writes.past in
    let here : c.args.self.now ≡ past c.in-Some.held =
    sym c.self.view_is ∙ ap (past_in past) (sym c.take.ensures.value ∙ c.in-Some.is) in
    book_by c.put-held.result.1 (past c.in-Some.held) (past c.put-held.result.0) c.args.step
    c.put-held.ensures.ok c.put-held.ensures.err
    ∙ ap (λ p. p.book) (sym here)
