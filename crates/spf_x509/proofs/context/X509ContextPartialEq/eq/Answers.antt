use Rattle.std.proofs.Common.{arith}
use Rattle.std.specs.Arc.{arc_value}
use Rattle.std.specs.Cmp.Derive.Mapped.{pointwise-map}
use Rattle.spf_x509.specs.Context.{svid_eq}
use Rattle.spf_x509.proofs.context.X509ContextPartialEq.eq.Goals.{then-eq, else-eq}
use Rattle.spf_x509.proofs.context.X509ContextPartialEq.eq.Goals as goal

pub returns-then-eq-2 : goal.returns-then-eq-2
returns-then-eq-2 c =
    let e = pointwise-map arc_value svid_eq c.self.inside.svids.items c.other.inside.svids.items in
    rw (← c.self.view_is, ← c.other.view_is, e)
    (elim c.if-eq.branch [ then-eq w ↦ grind arith | else-eq w ↦ grind arith ])

pub returns-else-eq-2 : goal.returns-else-eq-2
returns-else-eq-2 c =
    let e = pointwise-map arc_value svid_eq c.self.inside.svids.items c.other.inside.svids.items in
    rw (← c.self.view_is, ← c.other.view_is, e)
    (elim c.if-eq.branch [ then-eq w ↦ grind arith | else-eq w ↦ grind arith ])
