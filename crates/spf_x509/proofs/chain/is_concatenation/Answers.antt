use Rattle.std.proofs.Common.{arith}
use Rattle.std.proofs.lemmas.Bool.Decides.{nat_tests}
use Rattle.spf_x509.proofs.Cuts.{begun_done, begun_more, begun_not}
use Rattle.spf_x509.proofs.chain.is_concatenation.Goals as goal

pub returns-in-None : goal.returns-in-None
returns-in-None c =
    let is = rw (← c.as_bytes.ensures.value) at c.certificate-item.is in (
      λ yes. absurd (cc (yes)),
      λ certs. absurd
          (begun_not c.args.certificates.now c.loop-certificate.certificate-index
          c.as_bytes.result.now c.args.der.now c.loop-certificate.rest.now
          c.loop-certificate.invariant c.loop-certificate-test.true is c.in-None.ensures certs),
    )

pub loop-certificate-preserved : goal.loop-certificate-preserved
loop-certificate-preserved c =
    let is = rw (← c.as_bytes.ensures.value) at c.certificate-item.is in
    begun_more c.args.certificates.now c.loop-certificate.certificate-index c.as_bytes.result.now
    c.args.der.now c.loop-certificate.rest.now c.in-Some.others.now c.loop-certificate.invariant
    c.loop-certificate-test.true is c.as_bytes.ensures.text c.in-Some.ensures

pub returns : goal.returns
returns c =
    let done = begun_done c.args.certificates.now c.loop-certificate.certificate-index
    c.args.der.now c.loop-certificate.rest.now c.loop-certificate.invariant
    c.loop-certificate-test.false in (
      λ yes. done.0 (grind (arith, nat_tests, c.is_empty.ensures, yes)),
      λ certs. grind (arith, nat_tests, c.is_empty.ensures, done.1 certs),
    )
