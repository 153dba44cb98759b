use Rattle.std.proofs.Common.{refl}
use Rattle.std.proofs.lemmas.List.{map_more, map_push, take_all}
use Rattle.spf_x509.specs.Bundle.{plain_entry}
use Rattle.spf_x509.proofs.bundle_map.shared_entries.Goals as goal

pub loop-trust_domain-preserved : goal.loop-trust_domain-preserved
loop-trust_domain-preserved c =
    let more = map_more plain_entry c.args.entries.now c.loop-trust_domain.trust_domain-index
    c.loop-trust_domain-item.result c.loop-trust_domain-test.true in
    rw (
      c.in_ok-push.ensures.ok,
      map_push,
      more,
      c.in_ok-try_clone.ensures,
      c.in_ok-try_clone-2.ensures,
      ← c.loop-trust_domain-item.is,
      c.loop-trust_domain.invariant,
    ) refl

pub returns : goal.returns
returns c =
    let all = take_all c.loop-trust_domain.trust_domain-index c.args.entries.now
    c.loop-trust_domain-test.false in
    rw all at c.loop-trust_domain.invariant
