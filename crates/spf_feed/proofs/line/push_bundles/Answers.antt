use Rattle.std.proofs.Common.{arith, ◌∙◌, ap}
use Rattle.std.specs.Arc.{arc_value}
use Rattle.spf_x509.specs.Bundle.{Bundle}
use Rattle.spf_feed.proofs.ShownLemmas.{bundles_more}
use Rattle.spf_feed.proofs.line.push_bundles.Goals as goal

pub loop-domain-preserved : goal.loop-domain-preserved
loop-domain-preserved c =
    let more = bundles_more _ _ c.push_bundle.new.line c.in-Some.domain.now
    (arc_value c.in-Some.bundle.now) c.deref.result.now c.next.new.self
    c.loop-domain.domain-iterator c.next_order.result.0.now c.loop-domain.left.now
    c.next_order.result.1.now c.authorities.result.now c.in-Some.ensures.steps
    c.deref.ensures
    (c.authorities.ensures ∙ ap (λ (b : Bundle). b.authorities) c.deref-in-loop-domain.ensures)
    c.next_order.ensures.order c.next_order.ensures.rest
    c.loop-domain.invariant.indexed c.loop-domain.invariant.text c.in_ok-push_bundle.ensures.text in
    record {
      text = more.0;
      indexed = more.1;
      grows = omega (arith, c.loop-domain.invariant.grows, c.push_bundle.ensures.grows);
    }
