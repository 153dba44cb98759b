use Rattle.std.proofs.Common.{◌≡◌, ℕ, List, [], map, ap, sym, ◌∙◌}
use Rattle.std.specs.Arc.{arc_value}
use Rattle.spf_x509.specs.Bundle.{Bundle, plain_entry, with_entries}
use Rattle.spf_x509.proofs.Rising.{again, one_put}
use Rattle.spf_x509.proofs.bundle_map.BundleMap.to_tree.Goals as goal

pub loop-trust_domain-preserved-in_ok-insert : goal.loop-trust_domain-preserved-in_ok-insert
loop-trust_domain-preserved-in_ok-insert c =
    let l = c.loop-trust_domain in
    rw c.in_ok-insert.ensures.entries
    (one_put l.tree.entries l.trust_domain-iterator c.next.new.self c.in-Some.trust_domain.now
    c.in_ok-try_clone.field-0 (arc_value c.in-Some.bundle.now) c.in_ok-try_clone-2.field-0 _
    c.in-Some.ensures.steps c.in_ok-try_clone.ensures c.in_ok-try_clone-2.ensures l.invariant)

pub loop-trust_domain-preserved : goal.loop-trust_domain-preserved
loop-trust_domain-preserved c =
    let l = c.loop-trust_domain in
    rw c.in_ok-insert.ensures.entries
    (one_put l.tree.entries l.trust_domain-iterator c.next.new.self c.in-Some.trust_domain.now
    c.in_ok-try_clone.field-0 (arc_value c.in-Some.bundle.now) c.in_ok-try_clone-2.field-0 _
    c.in-Some.ensures.steps c.in_ok-try_clone.ensures c.in_ok-try_clone-2.ensures l.invariant)

pub returns : goal.returns
returns c =
    let l = c.loop-trust_domain in
    let done : l.trust_domain-iterator ≡ [] = c.in-None.ensures.steps.0 in
    let given = λ (es : List (List ℕ × Bundle)).
    with_entries (map plain_entry l.tree.entries) es in
    sym (ap given done) ∙ l.invariant
    ∙ again c.args.self.now c.iter-trust_domain-items.ensures.order
