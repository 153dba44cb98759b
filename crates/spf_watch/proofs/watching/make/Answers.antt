use Rattle.std.proofs.Common.{◌≡◌, ◌∙◌, ap, refl, sym, ◌++◌}
use Rattle.std.proofs.lemmas.Result.{err_from_is_err_and}
use Rattle.spf_watch.specs.Causes.{is_output_failure}
use Rattle.spf_watch.specs.MadeSession.{made_session}
use Rattle.spf_watch.proofs.PutLemmas.{puts_then, puts_err}
use Rattle.spf_watch.proofs.watching.make.Goals as goal

pub returns-in_err-put-clause-text : goal.returns-in_err-put-clause-text
returns-in_err-put-clause-text g c =
    let p = err_from_is_err_and c.from_residual-in_err-put.result
    c.from_residual-in_err-put.ensures.1 in
    puts_err _ _ _ c.from_residual-in_err-put.result p.0 p.1
    (ap is_output_failure p.2 ∙ c.in_err-put.ensures.text.failure)

pub returns-clause-text : goal.returns-clause-text
returns-clause-text g c =
    let put = c.in_ok-put.ensures.text.text refl in
    let frames = put.1 ∙ c.as_slice.ensures.value in
    puts_then (λ text. text ≡ c.in_ok-session.session)
    (λ text. text ≡ made_session c.args.arguments) _ _ _ put.0 c.put_rest.result put.2
    (λ rest is. (λ i. frames i ++ is i) ∙ sym c.in_ok-session.ensures)
    c.put_rest.ensures.text
