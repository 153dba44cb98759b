use Rattle.std.proofs.Common.{ℕ, List, Ok, ◌∷◌, [], ◌++◌}
use Rattle.std.proofs.lemmas.List.{take_all}
use Rattle.std.proofs.lemmas.Result.{err_from_is_err_and}
use Rattle.spf_io.proofs.Each.{each_more, each_fails, unless}
use Rattle.spf_der.specs.Part.{Parts}
use Rattle.spf_x509.specs.Errors.{is_memory_svid}
use Rattle.spf_x509.specs.Rule.{intermediate_rule}
use Rattle.spf_x509.proofs.Within.{intermediates_at}
use Rattle.spf_x509.proofs.svid_rule.intermediate_rules.Goals as goal

pub returns-in_err-intermediate_certificate : goal.returns-in_err-intermediate_certificate
returns-in_err-intermediate_certificate c =
    let p = err_from_is_err_and c.from_residual.result c.from_residual.ensures.1 in
    let e = c.in_err-intermediate_certificate.field-0.0 in
    let i = c.loop-certificate.invariant in
    rw (p.1, p.2)
    (unless (is_memory_svid e)
    (λ broken. intermediates_at c.args.certificates.now _
    (each_fails (λ (p : Parts × List ℕ). intermediate_rule p.0) c.args.certificates.now
    c.loop-certificate.certificate-index c.certificate-item.result i.0 e i.1
    c.loop-certificate-test.true c.certificate-item.is broken))
    (rw c.scan.ensures at c.in_err-intermediate_certificate.ensures))

pub loop-certificate-preserved : goal.loop-certificate-preserved
loop-certificate-preserved c =
    let i = c.loop-certificate.invariant in (
      i.0 ++ tt ∷ [],
      each_more (λ (p : Parts × List ℕ). intermediate_rule p.0) c.args.certificates.now
          c.loop-certificate.certificate-index c.certificate-item.result i.0 tt i.1
          c.loop-certificate-test.true c.certificate-item.is
          (rw c.scan.ensures at c.in_ok-intermediate_certificate.ensures),
    )

pub returns : goal.returns
returns c =
    let i = c.loop-certificate.invariant in
    let all = take_all c.loop-certificate.certificate-index c.args.certificates.now
    c.loop-certificate-test.false in
    intermediates_at c.args.certificates.now (Ok i.0) (rw all at i.1)
