use Rattle.std.proofs.Common.{refl}
use Rattle.std.proofs.lemmas.List.{take_all, take_more}
use Rattle.spf_x509.proofs.chain.with_others.Goals as goal

pub loop-certificate-preserved : goal.loop-certificate-preserved
loop-certificate-preserved c =
    let more = take_more c.args.others.now c.loop-certificate.certificate-index
    c.certificate-item.result c.loop-certificate-test.true in
    rw (
      c.in_ok-push-2.ensures.ok,
      more,
      c.in_ok-try_clone.ensures,
      ← c.certificate-item.is,
      c.loop-certificate.invariant,
    ) refl

pub returns : goal.returns
returns c =
    let all = take_all c.loop-certificate.certificate-index c.args.others.now
    c.loop-certificate-test.false in
    rw all at c.loop-certificate.invariant
