use Rattle.std.proofs.Common.{◌≡◌, ◌∙◌, ap, sym, subst}
use Rattle.std.proofs.lemmas.Result.{err_from_is_err_and}
use Rattle.spf_watch.specs.Causes.{is_output_failure}
use Rattle.spf_watch.specs.Headline.{IsSummary}
use Rattle.spf_watch.proofs.PutLemmas.{puts_as, puts_err}
use Rattle.spf_watch.proofs.bench.bench.Goals as goal

pub returns-in_err-line-clause-text : goal.returns-in_err-line-clause-text
returns-in_err-line-clause-text g c =
    let p = err_from_is_err_and c.from_residual.result c.from_residual.ensures.1 in
    puts_err _ _ _ c.from_residual.result p.0 p.1 (ap is_output_failure p.2)

pub returns-clause-text : goal.returns-clause-text
returns-clause-text g c =
    puts_as (λ t. t ≡ c.as_bytes.result.now) (IsSummary c.args.arguments) _ _ c.put-written.result
    (λ t is. subst (IsSummary c.args.arguments) (sym (is ∙ c.as_bytes.ensures.value))
    c.in_ok-line.ensures) c.put-written.ensures.text
