use Rattle.std.proofs.Common.{◌≡◌, ◌∙◌, ap, map}
use Rattle.std.specs.Arc.{arc_value}
use Rattle.spf_jwt.specs.Bundle.{Bundle, plain_entry}
use Rattle.spf_x509.specs.Bundle.{with_entry}
use Rattle.spf_jwt.proofs.Entries.{insert_plain}
use Rattle.spf_x509.proofs.Found.{found_there, others_stay}
use Rattle.spf_jwt.proofs.bundle_set.JwtBundleSet.add_shared.Goals as goal

pub returns-clause-ok : goal.returns-clause-ok
returns-clause-ok c =
    let value = arc_value c.args.bundle in
    let key : c.in_ok-trust_domain.trust_domain ≡ value.domain =
    c.in_ok-trust_domain.ensures ∙ c.trust_domain.ensures
    ∙ ap (λ (b : Bundle). b.domain) c.deref.ensures in
    let es = c.self.inside.bundles.entries in
    rw (← c.self.view_is, c.in_ok-insert.ensures.entries)
    (insert_plain es c.in_ok-trust_domain.trust_domain c.args.bundle
    ∙ (λ i. with_entry (map plain_entry es) (key i) value))

pub returns-clause-found : goal.returns-clause-found
returns-clause-found c =
    rw (returns-clause-ok c)
    (found_there c.args.self.now (arc_value c.args.bundle).domain (arc_value c.args.bundle))

pub returns-clause-others : goal.returns-clause-others
returns-clause-others c =
    λ domain apart.
    rw (returns-clause-ok c)
    (others_stay c.args.self.now (arc_value c.args.bundle).domain (arc_value c.args.bundle) domain
    apart)
