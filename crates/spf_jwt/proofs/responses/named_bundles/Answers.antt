use Rattle.std.proofs.lemmas.Result.{err_from_is_err_and}
use Rattle.spf_io.proofs.Each.{each_more, each_fails, unless}
use Rattle.spf_api.specs.Errors.{is_memory_api}
use Rattle.spf_jwt.specs.Errors.{api_of_any_kind}
use Rattle.spf_jwt.specs.Responses.{named_bundle_of}
use Rattle.spf_jwt.proofs.responses.named_bundles.Goals as goal

pub returns-in_err-bundle : goal.returns-in_err-bundle
returns-in_err-bundle c =
    let p = err_from_is_err_and c.from_residual-in_err-bundle.result
    c.from_residual-in_err-bundle.ensures.1 in
    let e = c.in_err-bundle.field-0.0 in
    rw (p.1, p.2)
    (unless (is_memory_api (api_of_any_kind e))
    (each_fails named_bundle_of c.args.entries.now c.loop-entry.entry-index c.entry-item.result
    c.loop-entry.bundles.items (api_of_any_kind e) c.loop-entry.invariant c.loop-entry-test.true
    c.entry-item.is)
    c.in_err-bundle.ensures)

pub loop-entry-preserved : goal.loop-entry-preserved
loop-entry-preserved c =
    rw c.in_ok-push.ensures.items
    (each_more named_bundle_of c.args.entries.now c.loop-entry.entry-index c.entry-item.result
    c.loop-entry.bundles.items c.in_ok-bundle.bundle c.loop-entry.invariant c.loop-entry-test.true
    c.entry-item.is c.in_ok-bundle.ensures)
