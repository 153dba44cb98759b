use Rattle.std.proofs.Common.{◌≡◌, ◌++◌, ◌∷◌, [], ap, sym, ◌∙◌, append_assoc, arith}
use Rattle.spf_x509.specs.Bundle.{with_entry}
use Rattle.spf_jwt.proofs.Entries.{one_more_bundle}
use Rattle.spf_jwt.proofs.bundle_set.JwtBundleSet.extend.Goals as goal

pub loop-bundle-preserved : goal.loop-bundle-preserved
loop-bundle-preserved c =
    let l = c.loop-bundle in
    let b = c.in-Some.bundle in
    let step : l.bundle-iterator.rest.items ≡ b ∷ c.next.new.self.rest.items = grind arith in
    record {
      added = c.in_ok-add_bundle.ensures.ok ∙ ap (λ s. with_entry s b.domain b) l.invariant.added
          ∙ sym (one_more_bundle c.args.self.now l.yielded b);
      left = append_assoc l.yielded (b ∷ []) c.next.new.self.rest.items
          ∙ ap (λ bs. l.yielded ++ bs) (sym step) ∙ l.invariant.left;
    }
