use Rattle.std.proofs.Common.{refl}
use Rattle.std.proofs.lemmas.List.{map_push, take_all, take_more}
use Rattle.spf_x509.proofs.svid.listed_certificates.Goals as goal

pub loop-part-preserved : goal.loop-part-preserved
loop-part-preserved c =
    let more = take_more c.args.others.now c.loop-part.part-index c.part-item.result
    c.loop-part-test.true in
    rw (
      c.in_ok-push-2.ensures.ok,
      more,
      map_push,
      c.in_ok-certificate.ensures,
      ← c.part-item.is,
      c.loop-part.invariant,
    ) refl

pub returns : goal.returns
returns c =
    let all = take_all c.loop-part.part-index c.args.others.now c.loop-part-test.false in
    rw all at c.loop-part.invariant
