use Rattle.std.proofs.Common.{◌≡◌, ◌++◌, ◌∷◌, [], List, Err, ap, sym, ◌∙◌, subst, append_assoc}
use Rattle.std.proofs.Common.{arith}
use Rattle.std.proofs.lemmas.Result.{err_from_is_err_and}
use Rattle.std.specs.Arc.{arc_value}
use Rattle.spf_io.proofs.Each.{unless}
use Rattle.spf_api.specs.declared.response.BundleEntry.{BundleEntry}
use Rattle.spf_api.specs.Errors.{is_memory_api}
use Rattle.spf_jwt.specs.Errors.{api_of_any_kind}
use Rattle.spf_jwt.specs.Responses.{bundles_added, named_bundle_of}
use Rattle.spf_jwt.proofs.Shared.{one_added, entry_breaks}
use Rattle.spf_jwt.proofs.sharing.shared_bundles.Goals as goal

pub loop-entry-preserved : goal.loop-entry-preserved
loop-entry-preserved c =
    let l = c.loop-entry in
    let entry = c.in-Some.entry in
    let step : l.entry-iterator.rest.items ≡ entry ∷ c.next.new.self.rest.items = grind arith in
    record {
      so_far = one_added l.yielded entry l.set _ (arc_value c.in_ok-bundle.bundle)
          l.invariant.so_far c.in_ok-bundle.ensures c.in_ok-add_shared.ensures.ok;
      left = append_assoc l.yielded (entry ∷ []) c.next.new.self.rest.items
          ∙ ap (λ es. l.yielded ++ es) (sym step) ∙ l.invariant.left;
    }

pub returns-in_err-bundle : goal.returns-in_err-bundle
returns-in_err-bundle c =
    let l = c.loop-entry in
    let entry = c.in-Some.entry in
    let e = c.in_err-bundle.field-0.0 in
    let step : l.entry-iterator.rest.items ≡ entry ∷ c.next.new.self.rest.items = grind arith in
    let whole : l.yielded ++ entry ∷ c.next.new.self.rest.items ≡ c.args.entries.items =
    ap (λ es. l.yielded ++ es) (sym step) ∙ l.invariant.left in
    let p = err_from_is_err_and c.from_residual.result c.from_residual.ensures.1 in
    rw (p.1, p.2)
    (unless (is_memory_api (api_of_any_kind e))
    (λ (is : named_bundle_of entry ≡ Err (api_of_any_kind e)).
    subst (λ (es : List BundleEntry). bundles_added es ≡ Err (api_of_any_kind e)) whole
    (entry_breaks l.yielded c.next.new.self.rest.items entry l.set (api_of_any_kind e)
    l.invariant.so_far is)) c.in_err-bundle.ensures)
