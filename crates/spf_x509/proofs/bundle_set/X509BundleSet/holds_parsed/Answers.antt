use Rattle.std.proofs.Common.{sym, ap, ◌∙◌, Ok}
use Rattle.std.specs.Arc.{arc_value}
use Rattle.spf_x509.proofs.Stays.{unchanged}
use Rattle.spf_x509.proofs.bundle_set.X509BundleSet.holds_parsed.Goals as goal

pub returns-in-Some-clause-unchanged : goal.returns-in-Some-clause-unchanged
returns-in-Some-clause-unchanged c =
    λ yes. rw (← c.self.view_is)
    (unchanged c.self.inside.bundles c.args.trust_domain.now c.args.der.now c.in-Some.ensures.order
    (record {
      bundle = arc_value c.in-Some.bundle.now;
      found = sym c.in-Some.ensures.found;
      read = c.is_parsed_from.ensures.0 yes ∙ ap Ok c.deref.ensures;
    }))
