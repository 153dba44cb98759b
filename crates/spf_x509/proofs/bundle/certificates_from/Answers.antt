use Rattle.std.proofs.lemmas.Result.{err_from_is_err_and}
use Rattle.spf_io.proofs.Each.{each_more, each_fails, unless}
use Rattle.spf_x509.specs.Certificate.{certificate_of}
use Rattle.spf_x509.specs.Errors.{is_memory_certificate}
use Rattle.spf_x509.proofs.bundle.certificates_from.Goals as goal

pub returns-in_err-certificate : goal.returns-in_err-certificate
returns-in_err-certificate c =
    let p = err_from_is_err_and c.from_residual-in_err-certificate.result
    c.from_residual-in_err-certificate.ensures.1 in
    let e = c.in_err-certificate.field-0.0 in
    rw (p.1, p.2)
    (unless (is_memory_certificate e)
    (each_fails certificate_of c.args.authorities.now c.loop-authority.authority-index
    c.authority-item.result c.loop-authority.certificates e c.loop-authority.invariant
    c.loop-authority-test.true c.authority-item.is)
    (rw c.as_slice.ensures at c.in_err-certificate.ensures.gives))

pub loop-authority-preserved : goal.loop-authority-preserved
loop-authority-preserved c =
    rw c.in_ok-push.ensures.ok
    (each_more certificate_of c.args.authorities.now c.loop-authority.authority-index
    c.authority-item.result c.loop-authority.certificates c.in_ok-certificate.certificate
    c.loop-authority.invariant c.loop-authority-test.true c.authority-item.is
    (rw c.as_slice.ensures at c.in_ok-certificate.ensures.gives))
