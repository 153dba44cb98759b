use Rattle.std.proofs.Common.{[], get_or, refl, ap, ◌∙◌, arith}
use Rattle.std.proofs.lemmas.Result.{err_from_is_err_and}
use Rattle.spf_io.proofs.Each.{unless}
use Rattle.spf_api.specs.Errors.{is_memory_api}
use Rattle.spf_api.specs.Views.{svid_entry_of}
use Rattle.spf_api.specs.Parsed.{pair_of, read_as, svids_in}
use Rattle.spf_api.proofs.Added.{brought_more, brought_fails, brought_all}
use Rattle.spf_api.proofs.Rules.{each-map, get_or_same, no_entry}
use Rattle.spf_api.proofs.response_rule.owned_svids.Goals as goal

pub loop-entry-init : goal.loop-entry-init
loop-entry-init c = record { materials = []; read = refl; are = c.new-svids.ensures.items }

pub loop-entry-preserved : goal.loop-entry-preserved
loop-entry-preserved c =
    let xs = c.args.entries.now in
    let i = c.loop-entry.entry-index in
    let x = get_or xs i no_entry in
    rw c.in_ok-push.ensures.items
    (brought_more (λ v. pair_of (svid_entry_of v)) xs i x c.loop-entry.svids.items
    (c.in_ok-svid.svid, c.in_ok-svid.field-0-1)
    c.loop-entry.invariant c.loop-entry-test.true
    (get_or_same xs i no_entry x c.loop-entry-test.true) c.in_ok-svid.ensures)

pub returns-in_err-svid : goal.returns-in_err-svid
returns-in_err-svid c =
    let p = err_from_is_err_and c.from_residual.result c.from_residual.ensures.1 in
    let e = c.in_err-svid.field-0.0 in
    let xs = c.args.entries.now in
    let i = c.loop-entry.entry-index in
    let x = get_or xs i no_entry in
    rw (p.1, p.2)
    (unless (is_memory_api e)
    (λ broken. ap (read_as svids_in) (each-map pair_of svid_entry_of xs)
    ∙ brought_fails (λ v. pair_of (svid_entry_of v)) xs i x c.loop-entry.svids.items e
    svids_in
    c.loop-entry.invariant c.loop-entry-test.true
    (get_or_same xs i no_entry x c.loop-entry-test.true) broken)
    c.in_err-svid.ensures)

pub returns : goal.returns
returns c =
    let xs = c.args.entries.now in
    ap (read_as svids_in) (each-map pair_of svid_entry_of xs)
    ∙ brought_all (λ v. pair_of (svid_entry_of v)) xs c.loop-entry.entry-index
    c.loop-entry.svids.items c.loop-entry.invariant (omega arith)
