use Rattle.std.proofs.Common.{map, ap, ◌∙◌}
use Rattle.spf_jwt.specs.Bundle.{keyed}
use Rattle.spf_jwt.proofs.Entries.{insert_keyed}
use Rattle.spf_x509.proofs.Found.{found_there, others_stay}
use Rattle.spf_jwt.proofs.bundle.JwtBundle.add_jwt_authority.Goals as goal

pub returns-clause-ok : goal.returns-clause-ok
returns-clause-ok c =
    let named = c.in_ok-key_id.ensures.ok ∙ c.key_id.ensures in
    let put = ap (map keyed) c.in_ok-insert.ensures.entries
    ∙ insert_keyed c.self.inside.authorities.entries c.in_ok-key_id.key_id c.args.authority named in
    rw (← c.self.view_is) (λ i. record {
      domain = c.self.inside.trust_domain;
      authorities = put i;
    })

pub returns-clause-found : goal.returns-clause-found
returns-clause-found c =
    let named = c.in_ok-key_id.ensures.ok ∙ c.key_id.ensures in
    rw (
      c.in_ok-insert.ensures.entries,
      insert_keyed c.self.inside.authorities.entries c.in_ok-key_id.key_id c.args.authority named,
    ) (found_there (map keyed c.self.inside.authorities.entries) c.args.authority.key_id
    c.args.authority)

pub returns-clause-others : goal.returns-clause-others
returns-clause-others c =
    let named = c.in_ok-key_id.ensures.ok ∙ c.key_id.ensures in
    rw (
      ← c.self.view_is,
      c.in_ok-insert.ensures.entries,
      insert_keyed c.self.inside.authorities.entries c.in_ok-key_id.key_id c.args.authority named,
    ) (others_stay (map keyed c.self.inside.authorities.entries) c.args.authority.key_id
    c.args.authority)
