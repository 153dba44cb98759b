use Rattle.std.proofs.lemmas.Result.{err_from_is_err_and}
use Rattle.spf_io.proofs.Each.{unless}
use Rattle.spf_api.specs.Errors.{is_memory_api}
use Rattle.spf_jwt.specs.Responses.{entry_required}
use Rattle.spf_jwt.proofs.Kept.{keeps, breaks}
use Rattle.spf_jwt.proofs.responses.check_entries.Goals as goal

pub loop-entry-preserved : goal.loop-entry-preserved
loop-entry-preserved c =
    keeps entry_required c.args.entries.now c.loop-entry.entry-index c.entry-item.result
    c.loop-entry.invariant c.loop-entry-test.true c.entry-item.is c.in_ok-check_entry.ensures

pub returns-in_err-check_entry : goal.returns-in_err-check_entry
returns-in_err-check_entry c =
    let p = err_from_is_err_and c.from_residual.result c.from_residual.ensures.1 in
    let e = c.in_err-check_entry.field-0.0 in
    rw (p.1, p.2)
    (unless (is_memory_api e)
    (breaks entry_required c.args.entries.now c.loop-entry.entry-index c.entry-item.result e
    c.loop-entry.invariant c.loop-entry-test.true c.entry-item.is) c.in_err-check_entry.ensures)
