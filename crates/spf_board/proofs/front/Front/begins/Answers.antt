use Rattle.std.proofs.Common.{ap, subst, refl}
use mathlib.Core.List.{IsPrefix}
use Rattle.spf_board.proofs.Prefixes.{begins_by}
use Rattle.spf_board.proofs.front.Front.begins.Goals as goal

pub returns : goal.returns
returns g c =
    let both = c.learn.new.self.log in
    let this : IsPrefix c.self.inside.seen.log both =
    subst (λ l. IsPrefix l both) (ap (λ s. s.log) c.again-both.ensures) c.learn.ensures.2 in
    rw (← c.self.view_is, ← c.other.view_is) (begins_by _ c.self.inside.number c.other.inside.number
    c.self.inside.seen.log c.other.inside.seen.log both refl c.self.invariant.0 c.other.invariant.0
    this c.learn.ensures.3)
