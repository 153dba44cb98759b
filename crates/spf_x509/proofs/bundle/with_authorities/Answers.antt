use Rattle.std.proofs.Common.{◌≡◌, ◌<◌, ◌==◌, ℕ, Bool, false, length, refl, arith}
use Rattle.std.proofs.lemmas.Bool.Decides.{nat_tests}
use Rattle.std.proofs.lemmas.Result.{err_from_is_err_and}
use Rattle.spf_der.specs.declared.error.X509ParseKind.TheVariants.{InvalidCertificate}
use Rattle.spf_x509.specs.declared.error.CertificateError.TheVariants.{ParseX509Certificate}
use Rattle.spf_io.proofs.Each.{unless}
use Rattle.spf_io.proofs.Many.{many_more, many_fails}
use Rattle.spf_x509.specs.Chain.{authority_at, authorities_after, authorities_rule}
use Rattle.spf_x509.specs.Errors.{is_memory_certificate}
use Rattle.spf_x509.proofs.bundle.with_authorities.Goals as goal

is_left : (n : ℕ) (b : Bool) → b ≡ (n == 0) → b ≡ false → 0 < n
is_left n b is off = grind (arith, nat_tests, is, off)

pub loop-rest-init : goal.loop-rest-init
unfolding authorities_rule
loop-rest-init c = (length c.args.der.now, omega arith, refl)

pub loop-rest-preserved : goal.loop-rest-preserved
loop-rest-preserved c =
    let some : 0 < length c.loop-rest.rest.now = grind arith in
    rw c.in_ok-push.ensures.ok
    (many_more authority_at (ParseX509Certificate InvalidCertificate) c.loop-rest.authorities
    c.loop-rest.rest.now (authorities_after c.args.certificates c.args.der.now)
    c.in_ok-authority.authority c.in_ok-authority.after.now some c.in_ok-authority.ensures.gives
    c.in_ok-authority.ensures.shorter c.loop-rest.invariant)

pub returns-in_err-authority : goal.returns-in_err-authority
returns-in_err-authority c =
    let some : 0 < length c.loop-rest.rest.now =
    is_left _ _ c.is_empty.ensures c.loop-rest-test.true in
    let p = err_from_is_err_and c.from_residual.result c.from_residual.ensures.1 in
    let e = c.in_err-authority.field-0.0 in
    rw (p.1, p.2)
    (unless (is_memory_certificate e)
    (λ broken.
    many_fails authority_at (ParseX509Certificate InvalidCertificate) c.loop-rest.authorities
    c.loop-rest.rest.now (authorities_after c.args.certificates c.args.der.now) e some broken
    c.loop-rest.invariant)
    c.in_err-authority.ensures.gives)
