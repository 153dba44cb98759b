use Rattle.std.proofs.Common.{ap, sym, ◌∙◌}
use Rattle.spf_id.specs.Id.{Id}
use Rattle.spf_x509.specs.Svid.{Svid}
use Rattle.spf_io.proofs.Exact.{bytes_exact}
use Rattle.spf_api.proofs.response_rule.is_last_domain.Goals as goal

pub returns-in-Some : goal.returns-in-Some
returns-in-Some c =
    λ yes.
    record {
      svid = c.in-Some.svid.now;
      last = sym c.in-Some.ensures.value;
      is = sym ((bytes_exact c.args.trust_domain.now c.trust_domain.result.now).0
          (sym c.eq.ensures ∙ yes)
          ∙ c.trust_domain.ensures ∙ ap (λ (i : Id). i.domain) c.spiffe_id.ensures
          ∙ ap (λ (s : Svid). s.id.domain) c.deref.ensures);
    }
