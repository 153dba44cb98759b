use Rattle.std.proofs.Common.{◌≡◌, ◌++◌, ◌∷◌, [], ap, sym, ◌∙◌, append_assoc, arith}
use Rattle.std.proofs.lemmas.Result.{err_from_is_err_and}
use Rattle.spf_x509.specs.Bundle.{with_entry}
use Rattle.spf_x509.proofs.Entries.{holds_front, one_more_bundle}
use Rattle.spf_x509.proofs.bundle_set.X509BundleSet.extend.Goals as goal

pub loop-bundle-preserved : goal.loop-bundle-preserved
loop-bundle-preserved c =
    let l = c.loop-bundle in
    let b = c.in-Some.bundle in
    let step : l.bundle-iterator.rest.items ≡ b ∷ c.next.new.self.rest.items = grind arith in
    record {
      added = c.in_ok-add_bundle.ensures.ok ∙ ap (λ s. with_entry s b.domain b) l.invariant.added
          ∙ sym (one_more_bundle c.args.self.now l.yielded b);
      left = append_assoc l.yielded (b ∷ []) c.next.new.self.rest.items
          ∙ ap (λ bs. l.yielded ++ bs) (sym step) ∙ l.invariant.left;
    }

pub returns-in_err-add_bundle-clause-err : goal.returns-in_err-add_bundle-clause-err
returns-in_err-add_bundle-clause-err c =
    let l = c.loop-bundle in
    let b = c.in-Some.bundle in
    let step : l.bundle-iterator.rest.items ≡ b ∷ c.next.new.self.rest.items = grind arith in
    let p = err_from_is_err_and c.from_residual.result c.from_residual.ensures.1 in
    rw (p.1) (holds_front c.args.self.now c.args.bundles.items l.yielded b
    c.next.new.self.rest.items c.add_bundle.new.self
    (ap (λ bs. l.yielded ++ bs) (sym step) ∙ l.invariant.left)
    (c.in_err-add_bundle.ensures.err ∙ l.invariant.added))
