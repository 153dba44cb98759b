use Rattle.std.proofs.Common.{refl}
use Rattle.std.proofs.lemmas.List.{take_all, take_more}
use Rattle.spf_x509.proofs.context.copied_crls.Goals as goal

pub loop-crl-preserved : goal.loop-crl-preserved
loop-crl-preserved c =
    let more = take_more c.args.crls.now c.loop-crl.crl-index c.crl-item.result
    c.loop-crl-test.true in
    rw (
      c.in_ok-push.ensures.items,
      more,
      c.in_ok-try_clone.ensures,
      ← c.crl-item.is,
      c.loop-crl.invariant,
    ) refl

pub returns : goal.returns
returns c =
    let all = take_all c.loop-crl.crl-index c.args.crls.now c.loop-crl-test.false in
    rw all at c.loop-crl.invariant
