use Rattle.std.proofs.Common.{◌≡◌, OnOk, IsSomeAnd, unwrap_or, sym, ap, ◌∙◌, subst}
use Rattle.std.specs.Option.{option_map}
use Rattle.left_right.specs.Sides.{view}
use Rattle.spf_board.specs.Board.{IsBoundTo, unbound}
use Rattle.spf_board.specs.Passes.{Renews, passed, pass_view, read_of}
use Rattle.spf_board.proofs.pass.Pass.renew.Goals as goal

pub renew-reader-requires : goal.renew-reader-requires
renew-reader-requires g c =
    let same = sym c.take.ensures.value ∙ c.in-Some.is in
    subst (λ o. IsSomeAnd o (λ r. IsBoundTo (view r.place) c.self.inside.memory.book)) same
    c.self.invariant.0

pub returns-clause-ok : goal.returns-clause-ok
returns-clause-ok g c =
    let i = c.self.inside in
    let same = sym c.take.ensures.value ∙ c.in-Some.is in
    let was : c.args.self.now ≡ pass_view i.memory (view c.in-Some.reader.place) i.closed =
    sym c.self.view_is ∙ ap (λ o. pass_view i.memory
    (unwrap_or (option_map (λ r. view r.place) o) unbound) i.closed) same in
    let r = c.renew-reader in
    subst (λ p. OnOk r.result.1 (Renews g.K.Kind.legal (read_of p)
    (passed r.new.self (view r.result.0.place)))) (sym was) r.ensures.ok
