use Rattle.std.proofs.Common.{◌≡◌, ◌∙◌, ap, subst, Result}
use Rattle.spf_id.specs.Id.{Id}
use Rattle.spf_io.specs.Rule.{Gives}
use Rattle.spf_x509.specs.declared.error.CertificateError.{CertificateError}
use Rattle.spf_x509.specs.Certificate.{spiffe_id_rule}
use Rattle.spf_x509.specs.Errors.{is_memory_certificate}
use Rattle.spf_x509.proofs.Cuts.{id_is}
use Rattle.spf_x509.proofs.certificate.Certificate.spiffe_id.Goals as goal

pub returns-clause-san : goal.returns-clause-san
returns-clause-san c = λ parts text.
    let same : c.as_slice.result.now ≡ c.args.self.now = c.as_slice.ensures ∙ c.self.view_is in
    subst (λ (rule : Result Id CertificateError).
    Gives is_memory_certificate (λ (id : Id). id) c.spiffe_id_from_der.result rule)
    (ap spiffe_id_rule same ∙ id_is c.args.self.now parts text) c.spiffe_id_from_der.ensures
