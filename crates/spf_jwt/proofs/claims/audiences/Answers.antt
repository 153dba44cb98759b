use Rattle.std.proofs.Common.{sym, ◌∙◌}
use Rattle.std.proofs.lemmas.Result.{err_from_is_err_and}
use Rattle.spf_jwt.proofs.Keys.{texts_are}
use Rattle.spf_jwt.proofs.claims.audiences.Goals as goal

pub returns-in_err-texts : goal.returns-in_err-texts
returns-in_err-texts c =
    let p = err_from_is_err_and c.from_residual.result c.from_residual.ensures.1 in
    rw (p.1, p.2, texts_are c.args.texts.now (sym c.is_empty.ensures ∙ c.if-is_empty.false))
    c.in_err-texts.ensures

pub returns : goal.returns
returns c =
    rw (texts_are c.args.texts.now (sym c.is_empty.ensures ∙ c.if-is_empty.false), c.new.ensures)
    c.in_ok-texts.ensures
