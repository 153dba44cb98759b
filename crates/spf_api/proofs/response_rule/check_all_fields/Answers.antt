use Rattle.std.proofs.Common.{[], refl, arith}
use Rattle.std.proofs.lemmas.Result.{err_from_is_err_and}
use Rattle.spf_io.proofs.Each.{unless}
use Rattle.spf_api.specs.Errors.{is_memory_api}
use Rattle.spf_api.specs.Views.{svid_entry_of}
use Rattle.spf_api.specs.Parsed.{fields_required}
use Rattle.spf_api.proofs.Rules.{kept_more, kept_fails, kept_all, no_entry}
use Rattle.spf_api.proofs.response_rule.check_all_fields.Goals as goal

pub loop-entry-init : goal.loop-entry-init
loop-entry-init c = record { answers = []; are = refl }

pub loop-entry-preserved : goal.loop-entry-preserved
loop-entry-preserved c =
    kept_more (λ v. fields_required (svid_entry_of v)) c.args.entries.now c.loop-entry.entry-index
    no_entry
    c.loop-entry.invariant c.loop-entry-test.true c.in_ok-check_fields.ensures

pub returns-in_err-check_fields : goal.returns-in_err-check_fields
returns-in_err-check_fields c =
    let p = err_from_is_err_and c.from_residual.result c.from_residual.ensures.1 in
    let e = c.in_err-check_fields.field-0.0 in
    rw (p.1, p.2)
    (unless (is_memory_api e)
    (kept_fails fields_required svid_entry_of c.args.entries.now c.loop-entry.entry-index no_entry e
    c.loop-entry.invariant c.loop-entry-test.true) c.in_err-check_fields.ensures)

pub returns : goal.returns
returns c =
    kept_all fields_required svid_entry_of c.args.entries.now c.loop-entry.entry-index
    c.loop-entry.invariant (omega arith)
