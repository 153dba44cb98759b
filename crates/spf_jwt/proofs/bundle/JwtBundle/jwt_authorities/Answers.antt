use Rattle.std.proofs.Common.{List, ℕ, map, ap, ◌∙◌}
use Rattle.spf_jwt.specs.Authority.{Authority}
use Rattle.spf_jwt.specs.Bundle.{Bundle}
use Rattle.spf_jwt.proofs.Entries.{keyed_values, keyed_order}
use Rattle.spf_jwt.proofs.bundle.JwtBundle.jwt_authorities.Goals as goal

pub returns-clause-keys : goal.returns-clause-keys
returns-clause-keys c =
    c.values.ensures.rest ∙ keyed_values c.self.inside.authorities.entries
    ∙ ap (λ (b : Bundle). map (λ (e : List ℕ × Authority). e.1) b.authorities) c.self.view_is

pub returns-clause-order : goal.returns-clause-order
returns-clause-order c =
    rw (← c.self.view_is) (keyed_order c.self.inside.authorities.entries c.values.ensures.ordered)
