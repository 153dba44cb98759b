use Rattle.std.proofs.Common.{string_bytes, ap, ◌∙◌}
use Rattle.spf_jwt.specs.Authority.{Authority}
use Rattle.spf_jwt.specs.Bundle.{Bundle}
use Rattle.spf_x509.specs.Bundle.{find_entry}
use Rattle.spf_jwt.proofs.Entries.{lookup_seen, seen_ref}
use Rattle.spf_jwt.proofs.bundle.JwtBundle.find_jwt_authority.Goals as goal

pub returns : goal.returns
returns c =
    let same = λ (a : Authority). a in
    seen_ref same c.get.result _ c.get.ensures.value
    ∙ lookup_seen string_bytes same c.self.inside.authorities.entries c.args.key_id.now
    ∙ ap (λ (b : Bundle). find_entry c.args.key_id.now b.authorities) c.self.view_is
