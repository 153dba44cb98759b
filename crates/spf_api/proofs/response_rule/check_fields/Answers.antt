use Rattle.std.proofs.Common.{refl}
use Rattle.std.proofs.lemmas.Result.{err_from_is_err_and}
use Rattle.spf_io.proofs.Each.{unless}
use Rattle.spf_api.specs.Errors.{is_memory_api}
use Rattle.spf_api.specs.Parsed.{fields_required}
use Rattle.spf_api.proofs.response_rule.check_fields.Goals as goal

pub returns-in_err-require : goal.returns-in_err-require
unfolding fields_required
returns-in_err-require c =
    let p = err_from_is_err_and c.from_residual.result c.from_residual.ensures.1 in
    rw (p.1, p.2)
    (unless (is_memory_api c.in_err-require.field-0.0)
    (λ broken. rw (rw c.as_bytes.ensures.value at broken) refl) c.in_err-require.ensures)

pub returns-in_err-require-2 : goal.returns-in_err-require-2
unfolding fields_required
returns-in_err-require-2 c =
    let p = err_from_is_err_and c.from_residual-in_err-require-2.result
    c.from_residual-in_err-require-2.ensures.1 in
    rw (p.1, p.2)
    (unless (is_memory_api c.in_err-require-2.field-0.0)
    (λ broken. rw (rw c.as_bytes.ensures.value at c.in_ok-require.ensures) (rw broken refl))
    c.in_err-require-2.ensures)

pub returns : goal.returns
unfolding fields_required
returns c =
    rw (rw c.as_bytes.ensures.value at c.in_ok-require.ensures)
    (rw c.in_ok-require-2.ensures c.require-3.ensures)
