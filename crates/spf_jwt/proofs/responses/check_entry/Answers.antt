use Rattle.std.proofs.lemmas.Result.{err_from_is_err_and}
use Rattle.spf_io.proofs.Each.{unless}
use Rattle.spf_api.specs.Errors.{is_memory_api}
use Rattle.spf_jwt.proofs.Required.{first_breaks, second_decides}
use Rattle.spf_jwt.proofs.responses.check_entry.Goals as goal

pub returns-in_err-require : goal.returns-in_err-require
returns-in_err-require c =
    let p = err_from_is_err_and c.from_residual.result c.from_residual.ensures.1 in
    let e = c.in_err-require.field-0.0 in
    rw (p.1, p.2)
    (unless (is_memory_api e) (first_breaks c.args.entry.now e)
    (rw c.as_str.ensures at c.in_err-require.ensures))

pub returns : goal.returns
returns c =
    rw (second_decides c.args.entry.now (rw c.as_str.ensures at c.in_ok-require.ensures))
    (rw c.as_str-2.ensures at c.require-2.ensures)
