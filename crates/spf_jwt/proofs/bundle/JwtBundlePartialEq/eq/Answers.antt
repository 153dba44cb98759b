use Rattle.std.proofs.Common.{arith}
use Rattle.std.specs.Cmp.Derive.Mapped.{pointwise-map}
use Rattle.spf_jwt.specs.Bundle.{keyed, key_eq}
use Rattle.spf_jwt.proofs.bundle.JwtBundlePartialEq.eq.Goals as goal

pub returns-then-eq : goal.returns-then-eq
returns-then-eq c =
    let e = pointwise-map keyed key_eq c.self.inside.authorities.entries
    c.other.inside.authorities.entries in
    rw (← c.self.view_is, ← c.other.view_is, e) (grind arith)
