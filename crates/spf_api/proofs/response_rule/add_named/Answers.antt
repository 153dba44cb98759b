use Rattle.std.proofs.Common.{[], get_or, refl, ap, ◌∙◌, arith}
use Rattle.std.specs.Arc.{arc_value}
use Rattle.std.proofs.lemmas.Result.{err_from_is_err_and}
use Rattle.spf_io.proofs.Each.{unless}
use Rattle.spf_api.specs.Errors.{is_memory_api}
use Rattle.spf_x509.specs.Bundle.{with_bundles}
use Rattle.spf_api.specs.Views.{bundle_entry_of}
use Rattle.spf_api.specs.Parsed.{named_bundle_of, read_as}
use Rattle.spf_api.proofs.Added.{named_more, named_fails, named_all}
use Rattle.spf_api.proofs.Rules.{each-map, get_or_same, no_bundle}
use Rattle.spf_api.proofs.response_rule.add_named.Goals as goal

pub loop-entry-init : goal.loop-entry-init
loop-entry-init c = record { bundles = []; read = refl; stand = refl }

pub loop-entry-preserved : goal.loop-entry-preserved
loop-entry-preserved c =
    let xs = c.args.entries.now in
    let i = c.loop-entry.entry-index in
    let x = get_or xs i no_bundle in
    named_more (λ v. named_bundle_of (bundle_entry_of v)) xs i x c.args.bundles.now
    c.loop-entry.bundles c.add_shared.new.self (arc_value c.in_ok-bundle.bundle)
    c.loop-entry.invariant c.loop-entry-test.true
    (get_or_same xs i no_bundle x c.loop-entry-test.true) c.in_ok-bundle.ensures
    c.in_ok-add_shared.ensures.ok

pub returns-in_err-bundle : goal.returns-in_err-bundle
returns-in_err-bundle c =
    let p = err_from_is_err_and c.from_residual.result c.from_residual.ensures.1 in
    let e = c.in_err-bundle.field-0.0 in
    let xs = c.args.entries.now in
    let i = c.loop-entry.entry-index in
    let x = get_or xs i no_bundle in
    rw (p.1, p.2)
    (unless (is_memory_api e)
    (λ broken. ap (read_as (with_bundles c.args.bundles.now))
    (each-map named_bundle_of bundle_entry_of xs)
    ∙ named_fails (λ v. named_bundle_of (bundle_entry_of v)) xs i x c.args.bundles.now
    c.loop-entry.bundles e
    c.loop-entry.invariant c.loop-entry-test.true
    (get_or_same xs i no_bundle x c.loop-entry-test.true) broken)
    c.in_err-bundle.ensures)

pub returns : goal.returns
returns c =
    let xs = c.args.entries.now in
    ap (read_as (with_bundles c.args.bundles.now)) (each-map named_bundle_of bundle_entry_of xs)
    ∙ named_all (λ v. named_bundle_of (bundle_entry_of v)) xs c.loop-entry.entry-index
    c.args.bundles.now c.loop-entry.bundles c.loop-entry.invariant (omega arith)
