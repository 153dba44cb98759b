use Rattle.std.proofs.lemmas.Result.{err_from_is_err_and}
use Rattle.serde_json.specs.Find.{as_str}
use Rattle.serde_json.specs.View.{view}
use Rattle.serde_json.specs.declared.value.Value.{Value}
use Rattle.spf_io.proofs.Each.{each_more, each_fails, unless}
use Rattle.spf_jwt.specs.Token.{text_rule}
use Rattle.spf_jwt.specs.Errors.{is_memory_token}
use Rattle.spf_jwt.proofs.claims.texts_of.Goals as goal

pub returns-in_err-text : goal.returns-in_err-text
returns-in_err-text c =
    let p = err_from_is_err_and c.from_residual-in_err-text.result
    c.from_residual-in_err-text.ensures.1 in
    let e = c.in_err-text.field-0.0 in
    rw (p.1, p.2)
    (unless (is_memory_token e)
    (each_fails (λ (v : Value). text_rule (as_str (view v))) c.args.values.now
    c.loop-value.value-index c.value-item.result c.loop-value.texts.items e c.loop-value.invariant
    c.loop-value-test.true c.value-item.is) c.in_err-text.ensures)

pub loop-value-preserved : goal.loop-value-preserved
loop-value-preserved c =
    rw c.in_ok-push.ensures.items
    (each_more (λ (v : Value). text_rule (as_str (view v))) c.args.values.now
    c.loop-value.value-index c.value-item.result c.loop-value.texts.items c.in_ok-text.text
    c.loop-value.invariant c.loop-value-test.true c.value-item.is c.in_ok-text.ensures)
