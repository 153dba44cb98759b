use Rattle.std.proofs.Common.{◌∙◌}
use Rattle.std.specs.Arc.{arc_value}
use Rattle.spf_jwt.proofs.Entries.{lookup_plain, seen_ref}
use Rattle.spf_jwt.proofs.bundle_set.JwtBundleSet.get_ref.Goals as goal

pub returns : goal.returns
returns c =
    rw (← c.self.view_is)
    (seen_ref arc_value c.get.result _ c.get.ensures.value
    ∙ lookup_plain c.self.inside.bundles.entries c.args.trust_domain.now)
