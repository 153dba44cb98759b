use Rattle.std.proofs.Common.{refl, ◌∙◌}
use Rattle.std.proofs.lemmas.List.{take_all, take_more}
use Rattle.spf_x509.proofs.certificates.Certificates.try_clone.Goals as goal

pub loop-certificate-preserved : goal.loop-certificate-preserved
loop-certificate-preserved c =
    let more = take_more c.as_slice-certificates.result.now c.loop-certificate.certificate-index
    c.certificate-item.result c.loop-certificate-test.true in
    rw (
      c.in_ok-push.ensures.ok,
      more,
      c.in_ok-try_clone.ensures,
      ← c.certificate-item.is,
      c.loop-certificate.invariant,
    ) refl

pub returns : goal.returns
returns c =
    let all = take_all c.loop-certificate.certificate-index c.as_slice-certificates.result.now
    c.loop-certificate-test.false in
    c.loop-certificate.invariant ∙ (rw all c.as_slice-certificates.ensures)
