use Rattle.std.proofs.Common.{◌≡◌, ◌++◌, ◌∷◌, [], ap, sym, ◌∙◌, append_assoc, arith}
use Rattle.spf_jwt.specs.Bundle.{Bundle}
use Rattle.spf_x509.specs.Bundle.{with_entry}
use Rattle.spf_jwt.proofs.Entries.{one_more_key}
use Rattle.spf_jwt.proofs.bundle.JwtBundle.add_all.Goals as goal

pub loop-authority-preserved : goal.loop-authority-preserved
loop-authority-preserved c =
    let l = c.loop-authority in
    let a = c.in-Some.authority in
    let held = c.args.self.now in
    let step : l.authority-iterator.rest.items ≡ a ∷ c.next.new.self.rest.items = grind arith in
    record {
      added = c.in_ok-add_jwt_authority.ensures.ok
          ∙ ap (λ (b : Bundle). record {
            domain = b.domain;
            authorities = with_entry b.authorities a.key_id a;
          }) l.invariant.added
          ∙ (λ i. record {
            domain = held.domain;
            authorities = sym (one_more_key held.authorities l.yielded a) i;
          });
      left = append_assoc l.yielded (a ∷ []) c.next.new.self.rest.items
          ∙ ap (λ keys. l.yielded ++ keys) (sym step) ∙ l.invariant.left;
    }
