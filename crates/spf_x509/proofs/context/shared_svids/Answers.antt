use Rattle.std.proofs.Common.{refl}
use Rattle.std.proofs.lemmas.List.{map_more, map_push, take_all}
use Rattle.std.specs.Arc.{arc_value}
use Rattle.spf_x509.proofs.context.shared_svids.Goals as goal

pub loop-svid-preserved : goal.loop-svid-preserved
loop-svid-preserved c =
    let more = map_more arc_value c.args.svids.now c.loop-svid.svid-index c.svid-item.result
    c.loop-svid-test.true in
    rw (
      c.in_ok-push.ensures.items,
      map_push,
      more,
      c.in_ok-try_clone.ensures,
      ← c.svid-item.is,
      c.loop-svid.invariant,
    ) refl

pub returns : goal.returns
returns c =
    let all = take_all c.loop-svid.svid-index c.args.svids.now c.loop-svid-test.false in
    rw all at c.loop-svid.invariant
