use Rattle.std.proofs.Common.{refl}
use Rattle.std.proofs.lemmas.Result.{err_from_is_err_and}
use Rattle.spf_io.proofs.Each.{unless}
use Rattle.spf_api.specs.Errors.{is_memory_api}
use Rattle.spf_jwt.specs.Validation.{validation_rule}
use Rattle.spf_jwt.proofs.validation.check_validation.Goals as goal

pub returns-in_err-require : goal.returns-in_err-require
unfolding validation_rule
returns-in_err-require c =
    let p = err_from_is_err_and c.from_residual.result c.from_residual.ensures.1 in
    rw (p.1, p.2)
    (unless (is_memory_api c.in_err-require.field-0.0)
    (λ broken. rw (rw c.as_str.ensures at broken) refl) c.in_err-require.ensures)

pub returns : goal.returns
unfolding validation_rule
returns c = rw (rw c.as_str.ensures at c.in_ok-require.ensures) c.check_given.ensures
