use Rattle.std.proofs.Common.{◌≡◌, ◌+◌, ◌<◌, length, arith, sym, rules, true, false, Some, None}
use Rattle.std.proofs.lemmas.Bool.Decides.{nat_tests}
use Rattle.spf_messages.specs.Wire.{field_of}
use Rattle.spf_messages.specs.Claims.{claim_with, said_by, value_of}
use Rattle.spf_messages.specs.Folded.{entries_with, keyed_with, said_and, value_put}
use Rattle.spf_messages.proofs.Fields.{broken_left, done_left, field_left, refused_left}
use Rattle.spf_messages.proofs.Keyed.{claim_found, no_claim, refused_name, stepped, value_is_read}
use Rattle.spf_messages.proofs.Lists.{entries_are_read}
use Rattle.spf_messages.proofs.claims.+claims.Goals as goal

pub read_value-fields-init : goal.read_value-fields-init
read_value-fields-init t c =
    let deeper : c.args.depth ≡ c.in-Some.inner + 1 = search rules in (
      length c.args.bytes.now,
      omega arith,
      value_is_read c.args.depth c.in-Some.inner c.args.bytes.now (omega (arith, deeper)),
    )

pub read_value-fields-preserved : goal.read_value-fields-preserved
read_value-fields-preserved t c =
    let some : 0 < length c.fields.rest.now = grind (arith, nat_tests) in
    let found = c.in-Some-read_field in
    field_left (said_and (said_by (value_of c.in-Some.inner))) _ _ c.fields.rest.now
    (field_of found.field) found.after.now _ some found.ensures.exact found.ensures.shorter
    (sym (rw c.in-Some-2.is at c.in_ok-value.ensures)) c.fields.invariant

pub read_items-fields-init : goal.read_items-fields-init
read_items-fields-init t c =
    rw c.new-items.ensures.items (
      length c.args.bytes.now,
      omega arith,
      entries_are_read (value_of c.args.depth) 1 1 c.args.bytes.now,
    )

pub read_items-fields-preserved : goal.read_items-fields-preserved
read_items-fields-preserved t c =
    let some : 0 < length c.fields.rest.now = grind (arith, nat_tests) in
    let added : c.in_ok-add_item.field-0 ≡ true = search rules in
    field_left (entries_with (value_of c.args.depth) 1 1) _ _ c.fields.rest.now
    (field_of c.in-Some.field) c.in-Some.after.now _ some c.in-Some.ensures.exact
    c.in-Some.ensures.shorter (sym (rw added at c.in_ok-add_item.ensures)) c.fields.invariant

pub read_items-returns-then-not-branch : goal.read_items-returns-then-not-branch
read_items-returns-then-not-branch t c =
    let some : 0 < length c.fields.rest.now = grind (arith, nat_tests) in
    let refused : c.in_ok-add_item.field-0 ≡ false = search rules in
    refused_left (entries_with (value_of c.args.depth) 1 1) _ c.fields.rest.now
    (field_of c.in-Some.field) c.in-Some.after.now _ some c.in-Some.ensures.exact
    (sym (rw refused at c.in_ok-add_item.ensures)) c.fields.invariant

pub read_claims-fields-init : goal.read_claims-fields-init
read_claims-fields-init t c =
    rw c.new-claims.ensures.items (
      length c.args.bytes.now,
      omega arith,
      entries_are_read (claim_with (value_of c.args.depth)) 1 1 c.args.bytes.now,
    )

pub read_claims-fields-preserved : goal.read_claims-fields-preserved
read_claims-fields-preserved t c =
    let some : 0 < length c.fields.rest.now = grind (arith, nat_tests) in
    let added : c.in_ok-add_claim.field-0 ≡ true = search rules in
    field_left (entries_with (claim_with (value_of c.args.depth)) 1 1) _ _ c.fields.rest.now
    (field_of c.in-Some.field) c.in-Some.after.now _ some c.in-Some.ensures.exact
    c.in-Some.ensures.shorter (sym (rw added at c.in_ok-add_claim.ensures)) c.fields.invariant

pub read_claim-returns-then-depth-eq0 : goal.read_claim-returns-then-depth-eq0
read_claim-returns-then-depth-eq0 t c =
    no_claim c.args.depth c.args.bytes.now (grind (arith, nat_tests))

pub read_claim-returns-in_default : goal.read_claim-returns-in_default
read_claim-returns-in_default t c =
    let deep : 0 < c.args.depth = grind (arith, nat_tests) in
    let some : 0 < length c.fields.rest.now = grind (arith, nat_tests) in
    claim_found c.args.depth c.args.bytes.now None deep
    (broken_left (keyed_with (value_put (value_of c.args.depth))) _ c.fields.rest.now _ some
    c.in_default.ensures.exact c.fields.invariant.1)

pub read_claim-returns-in_default-name_after : goal.read_claim-returns-in_default-name_after
read_claim-returns-in_default-name_after t c =
    let deep : 0 < c.args.depth = grind (arith, nat_tests) in
    let some : 0 < length c.fields.rest.now = grind (arith, nat_tests) in
    claim_found c.args.depth c.args.bytes.now None deep
    (refused_left (keyed_with (value_put (value_of c.args.depth))) _ c.fields.rest.now
    (field_of c.in-Some.field) c.in-Some.after.now _ some c.in-Some.ensures.exact
    (refused_name (value_put (value_of c.args.depth)) c.fields.name.now c.fields.value
    (field_of c.in-Some.field) c.in_default-name_after.ensures) c.fields.invariant.1)

pub read_claim-returns-in-None : goal.read_claim-returns-in-None
read_claim-returns-in-None t c =
    let deep : 0 < c.args.depth = grind (arith, nat_tests) in
    let some : 0 < length c.fields.rest.now = grind (arith, nat_tests) in
    claim_found c.args.depth c.args.bytes.now None deep
    (refused_left (keyed_with (value_put (value_of c.args.depth))) _ c.fields.rest.now
    (field_of c.in-Some.field) c.in-Some.after.now _ some c.in-Some.ensures.exact
    (stepped (value_put (value_of c.args.depth)) c.fields.name.now
    c.in-Some-name_after.next.now c.fields.value None (field_of c.in-Some.field)
    c.in-Some-name_after.ensures (rw c.in-None.is at c.in_ok-value.ensures))
    c.fields.invariant.1)

pub read_claim-fields-preserved : goal.read_claim-fields-preserved
read_claim-fields-preserved t c =
    let some : 0 < length c.fields.rest.now = grind (arith, nat_tests) in (
      search rules,
      field_left (keyed_with (value_put (value_of c.args.depth))) _ _ c.fields.rest.now
          (field_of c.in-Some.field) c.in-Some.after.now _ some c.in-Some.ensures.exact
          c.in-Some.ensures.shorter
          (stepped (value_put (value_of c.args.depth)) c.fields.name.now
          c.in-Some-name_after.next.now c.fields.value (Some c.in-Some-2.value)
          (field_of c.in-Some.field) c.in-Some-name_after.ensures
          (rw c.in-Some-2.is at c.in_ok-value.ensures)) c.fields.invariant.1,
    )

pub read_claim-returns : goal.read_claim-returns
read_claim-returns t c =
    let deep : 0 < c.args.depth = grind (arith, nat_tests) in
    let none : length c.fields.rest.now ≡ 0 = grind (arith, nat_tests) in
    claim_found c.args.depth c.args.bytes.now (Some (c.fields.name.now, c.fields.value)) deep
    (done_left (keyed_with (value_put (value_of c.args.depth))) _ c.fields.rest.now _ none
    c.fields.invariant.1)
