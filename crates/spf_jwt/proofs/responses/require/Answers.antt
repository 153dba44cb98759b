use Rattle.std.proofs.Common.{◌≡◌, Err, sym, ap, ◌∙◌}
use Rattle.spf_io.proofs.Each.{unless}
use Rattle.spf_api.specs.Errors.{is_memory_api}
use Rattle.spf_api.specs.declared.error.WorkloadApiError.TheVariants.{MissingRequiredField}
use Rattle.spf_jwt.proofs.Required.{is_empty, is_there}
use Rattle.spf_jwt.proofs.responses.require.Goals as goal

pub returns-then-is_empty : goal.returns-then-is_empty
returns-then-is_empty c =
    unless (is_memory_api c.missing.result)
    (λ (is : c.missing.result ≡ MissingRequiredField c.args.field.now).
    is_empty c.args.text.now c.args.field.now (sym c.is_empty.ensures ∙ c.if-is_empty.true)
    ∙ ap Err (sym is)) c.missing.ensures

pub returns : goal.returns
returns c =
    is_there c.args.text.now c.args.field.now (sym c.is_empty.ensures ∙ c.if-is_empty.false)
