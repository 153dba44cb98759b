use Rattle.std.proofs.Common.{◌≡◌, ap, ◌∙◌}
use Rattle.std.specs.Arc.{arc_value}
use Rattle.std.proofs.lemmas.Result.{on_ok_weaker}
use Rattle.spf_x509.specs.Bundle.{Bundle}
use Rattle.spf_x509.proofs.Found.{found_after, others_after}
use Rattle.spf_x509.proofs.bundle_set.X509BundleSet.add_shared.Goals as goal

pub returns-clause-found : goal.returns-clause-found
returns-clause-found c =
    let k = c.in_ok-trust_domain.trust_domain in
    let bundle = arc_value c.args.bundle in
    let key : k ≡ bundle.domain = c.in_ok-trust_domain.ensures ∙ c.trust_domain.ensures
    ∙ ap (λ (b : Bundle). b.domain) c.deref.ensures in
    on_ok_weaker c.insert.result
    (found_after c.self.inside.bundles c.insert.new.self k bundle.domain bundle key)
    c.insert.ensures.ok

pub returns-clause-others : goal.returns-clause-others
returns-clause-others c =
    let k = c.in_ok-trust_domain.trust_domain in
    let bundle = arc_value c.args.bundle in
    let key : k ≡ bundle.domain = c.in_ok-trust_domain.ensures ∙ c.trust_domain.ensures
    ∙ ap (λ (b : Bundle). b.domain) c.deref.ensures in
    rw (← c.self.view_is)
    (on_ok_weaker c.insert.result
    (others_after c.self.inside.bundles c.insert.new.self k bundle.domain bundle key)
    c.insert.ensures.ok)
