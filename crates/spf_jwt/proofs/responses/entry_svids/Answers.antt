use Rattle.std.proofs.lemmas.Result.{err_from_is_err_and}
use Rattle.spf_io.proofs.Each.{each_more, each_fails, unless}
use Rattle.spf_api.specs.Errors.{is_memory_api}
use Rattle.spf_jwt.specs.Responses.{svid_of_entry}
use Rattle.spf_jwt.proofs.responses.entry_svids.Goals as goal

pub returns-in_err-svid : goal.returns-in_err-svid
returns-in_err-svid c =
    let p = err_from_is_err_and c.from_residual-in_err-svid.result
    c.from_residual-in_err-svid.ensures.1 in
    let e = c.in_err-svid.field-0.0 in
    rw (p.1, p.2)
    (unless (is_memory_api e)
    (each_fails svid_of_entry c.args.entries.now c.loop-entry.entry-index c.entry-item.result
    c.loop-entry.svids.items e c.loop-entry.invariant c.loop-entry-test.true c.entry-item.is)
    c.in_err-svid.ensures)

pub loop-entry-preserved : goal.loop-entry-preserved
loop-entry-preserved c =
    rw c.in_ok-push.ensures.items
    (each_more svid_of_entry c.args.entries.now c.loop-entry.entry-index c.entry-item.result
    c.loop-entry.svids.items c.in_ok-svid.svid c.loop-entry.invariant c.loop-entry-test.true
    c.entry-item.is c.in_ok-svid.ensures)
