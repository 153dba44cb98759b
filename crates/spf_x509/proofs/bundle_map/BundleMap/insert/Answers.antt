use Rattle.std.proofs.Common.{◌≡◌, ◌≢◌, ◌<◌, ◌≤◌, [], List, length, rules, sym, ap}
use Rattle.std.proofs.Common.{◌∙◌, subst, arith}
use Rattle.std.proofs.lemmas.List.{length-map, length-set, nil_from_length}
use Rattle.std.proofs.lemmas.Result.{on_ok_weaker}
use Rattle.spf_x509.specs.declared.bundle_map.TheConstants.{FEW}
use Rattle.spf_x509.specs.Bundle.{plain_entry}
use Rattle.spf_x509.specs.BundleMap.{GoesAt, StandsAt}
use Rattle.spf_x509.specs.Few.{few_items}
use Rattle.spf_x509.proofs.FewOrMany.{few_are, few_put, few_rise, many_are, many_put}
use Rattle.spf_x509.proofs.FewOrMany.{few_tried, moved_are}
use Rattle.spf_x509.proofs.Rising.{Shared}
use Rattle.spf_x509.proofs.bundle_map.BundleMap.insert.Goals as goal

pub invariant_of-self-then-not-is_empty : goal.invariant_of-self-then-not-is_empty
invariant_of-self-then-not-is_empty c =
    let many = c.self.inside.many.entries in
    let some : length many ≢ 0 = search rules in
    let more : length many ≤ length c.insert.new.self.entries =
    omega (arith, c.in_ok-insert.ensures.len) in
    many_are (few_items c.self.inside.few) many c.insert.new.self.entries c.args.trust_domain
    c.args.bundle c.self.invariant some c.in_ok-insert.ensures.entries more

pub returns-then-not-is_empty-clause-ok : goal.returns-then-not-is_empty-clause-ok
returns-then-not-is_empty-clause-ok c =
    let many = c.self.inside.many.entries in
    let some : length many ≢ 0 = search rules in
    rw (← c.self.view_is)
    (many_put (few_items c.self.inside.few) many c.insert.new.self.entries c.args.trust_domain
    c.args.bundle c.self.invariant some c.in_ok-insert.ensures.entries)

pub place_of-requires : goal.place_of-requires
place_of-requires c =
    let many = c.self.inside.many.entries in
    let none : many ≡ [] = nil_from_length many (search rules) in
    rw c.as_slice.ensures (few_rise (few_items c.self.inside.few) many c.self.invariant none)

pub invariant_of-self-in-Ok : goal.invariant_of-self-in-Ok
invariant_of-self-in-Ok c =
    let few = few_items c.self.inside.few in
    let many = c.self.inside.many.entries in
    let none : many ≡ [] = nil_from_length many (search rules) in
    let k = c.args.trust_domain in
    let stands : StandsAt few k c.in-Ok.index =
    subst (λ (es : List Shared). StandsAt es k c.in-Ok.index) c.as_slice.ensures
    c.in-Ok.ensures in
    let new = few_items c.set.new.self in
    let fits : length new ≤ FEW = omega (
      arith,
      c.self.invariant.small,
      ap length c.set.ensures,
      length-set few c.in-Ok.index (k, c.args.bundle),
      length-map few plain_entry,
    ) in
    few_are few many new k c.args.bundle c.self.invariant none
    (c.set.ensures ∙ sym (stands.put c.args.bundle)) fits

pub returns-in-Ok-clause-ok : goal.returns-in-Ok-clause-ok
returns-in-Ok-clause-ok c =
    let few = few_items c.self.inside.few in
    let many = c.self.inside.many.entries in
    let none : many ≡ [] = nil_from_length many (search rules) in
    let k = c.args.trust_domain in
    let stands : StandsAt few k c.in-Ok.index =
    subst (λ (es : List Shared). StandsAt es k c.in-Ok.index) c.as_slice.ensures
    c.in-Ok.ensures in
    let new = few_items c.set.new.self in
    rw (← c.self.view_is)
    (few_put few many new k c.args.bundle none (c.set.ensures ∙ sym (stands.put c.args.bundle)))

pub invariant_of-self-then-len-lt-FEW : goal.invariant_of-self-then-len-lt-FEW
invariant_of-self-then-len-lt-FEW c =
    let few = few_items c.self.inside.few in
    let many = c.self.inside.many.entries in
    let none : many ≡ [] = nil_from_length many (search rules) in
    let k = c.args.trust_domain in
    let goes : GoesAt few k c.in-Err.index =
    subst (λ (es : List Shared). GoesAt es k c.in-Err.index) c.as_slice.ensures
    c.in-Err.ensures in
    let room : length few < FEW = search rules in
    few_tried c.insert-in-Err.result few many (few_items c.insert-in-Err.new.self) k c.args.bundle
    c.in-Err.index c.self.invariant none goes room c.insert-in-Err.ensures.ok
    c.insert-in-Err.ensures.err

pub returns-in-Err-clause-ok : goal.returns-in-Err-clause-ok
returns-in-Err-clause-ok c =
    let few = few_items c.self.inside.few in
    let many = c.self.inside.many.entries in
    let none : many ≡ [] = nil_from_length many (search rules) in
    let k = c.args.trust_domain in
    let goes : GoesAt few k c.in-Err.index =
    subst (λ (es : List Shared). GoesAt es k c.in-Err.index) c.as_slice.ensures
    c.in-Err.ensures in
    rw (← c.self.view_is)
    (on_ok_weaker c.insert-in-Err.result
    (λ is. few_put few many (few_items c.insert-in-Err.new.self) k c.args.bundle none
    (is ∙ sym (goes.put c.args.bundle))) c.insert-in-Err.ensures.ok)

pub invariant_of-self-in-Err-2 : goal.invariant_of-self-in-Err-2
invariant_of-self-in-Err-2 c =
    let few = few_items c.self.inside.few in
    let many = c.self.inside.many.entries in
    let none : many ≡ [] = nil_from_length many (search rules) in
    let k = c.args.trust_domain in
    let i = c.in-Err-2.field-0 in
    let goes : GoesAt few k i = subst (λ (es : List Shared). GoesAt es k i) c.as_slice.ensures
    c.in-Err-2.ensures in
    let full : FEW ≤ length few = search rules in
    moved_are few many c.in_ok-many-in-Err-2.many.entries k c.args.bundle i c.self.invariant none
    goes full (rw c.self.view_is c.in_ok-many-in-Err-2.ensures)
