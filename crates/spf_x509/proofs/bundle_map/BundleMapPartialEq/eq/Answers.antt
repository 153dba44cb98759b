use Rattle.std.proofs.Common.{◌≡◌, Bool, ◌&&◌, map, refl, sym, ap, ◌∙◌}
use Rattle.std.specs.Cmp.Derive.Mapped.{pointwise-map}
use Rattle.spf_x509.specs.Bundle.{entry_eq, plain_entry, set_eq}
use Rattle.spf_x509.specs.Few.{few_items}
use Rattle.spf_x509.proofs.FewOrMany.{equal_parts}
use Rattle.spf_x509.proofs.bundle_map.BundleMapPartialEq.eq.Goals as goal

pub returns-then-eq : goal.returns-then-eq
returns-then-eq c =
    let here = c.self.inside in
    let there = c.other.inside in
    let same : c.eq.result
    ≡ set_eq (map plain_entry (few_items here.few)) (map plain_entry (few_items there.few)) =
    c.eq.ensures
    ∙ sym (pointwise-map plain_entry entry_eq c.as_slice.result.now c.as_slice-2.result.now)
    ∙ (λ i. set_eq (map plain_entry (c.as_slice.ensures i))
    (map plain_entry (c.as_slice-2.ensures i))) in
    rw (← c.self.view_is, ← c.other.view_is)
    (ap (λ (b : Bool). b && c.eq-then-eq.result) (sym c.if-eq.true)
    ∙ equal_parts (map plain_entry (few_items here.few)) (map plain_entry here.many.entries)
    (map plain_entry (few_items there.few)) (map plain_entry there.many.entries) c.eq.result
    c.eq-then-eq.result c.self.invariant c.other.invariant same
    (c.eq-then-eq.ensures
    ∙ sym (pointwise-map plain_entry entry_eq here.many.entries there.many.entries)))

pub returns-else-eq : goal.returns-else-eq
returns-else-eq c =
    let here = c.self.inside in
    let there = c.other.inside in
    let same : c.eq.result
    ≡ set_eq (map plain_entry (few_items here.few)) (map plain_entry (few_items there.few)) =
    c.eq.ensures
    ∙ sym (pointwise-map plain_entry entry_eq c.as_slice.result.now c.as_slice-2.result.now)
    ∙ (λ i. set_eq (map plain_entry (c.as_slice.ensures i))
    (map plain_entry (c.as_slice-2.ensures i))) in
    let many = set_eq (map plain_entry here.many.entries) (map plain_entry there.many.entries) in
    rw (← c.self.view_is, ← c.other.view_is)
    (c.if-eq.false ∙ ap (λ (b : Bool). b && many) (sym c.if-eq.false)
    ∙ equal_parts (map plain_entry (few_items here.few)) (map plain_entry here.many.entries)
    (map plain_entry (few_items there.few)) (map plain_entry there.many.entries) c.eq.result many
    c.self.invariant c.other.invariant same refl)
