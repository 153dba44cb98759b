use Rattle.std.proofs.Common.{◌∙◌, sym}
use Rattle.std.specs.Cmp.Derive.Mapped.{pointwise-map}
use Rattle.spf_jwt.specs.Bundle.{plain_entry, entry_eq}
use Rattle.spf_jwt.proofs.bundle_set.JwtBundleSetPartialEq.eq.Goals as goal

pub returns : goal.returns
returns c =
    let e = pointwise-map plain_entry entry_eq c.self.inside.bundles.entries
    c.other.inside.bundles.entries in
    rw (← c.self.view_is, ← c.other.view_is) (c.eq.ensures ∙ sym e)
