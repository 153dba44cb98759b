use Rattle.std.proofs.Common.{◌≡◌, ◌<◌, length, arith, sym, rules, true}
use Rattle.std.proofs.lemmas.Bool.Decides.{nat_tests}
use Rattle.spf_messages.specs.Wire.{field_of}
use Rattle.spf_messages.specs.Folded.{entries_with}
use Rattle.spf_messages.proofs.Fields.{field_left}
use Rattle.spf_messages.proofs.Lists.{entries_are_read}
use Rattle.spf_messages.proofs.view.read_list.Goals as goal

pub loop-rest-preserved : goal.loop-rest-preserved
loop-rest-preserved g c =
    let some : 0 < length c.loop-rest.rest.now = grind (arith, nat_tests) in
    let added : c.in_ok-add_entry.field-0 ≡ true = search rules in
    field_left (entries_with g.V.View.entry_in c.args.number c.args.max) _ _ c.loop-rest.rest.now
    (field_of c.in-Some.field) c.in-Some.after.now _ some c.in-Some.ensures.exact
    c.in-Some.ensures.shorter (sym (rw added at c.in_ok-add_entry.ensures)) c.loop-rest.invariant

pub loop-rest-init : goal.loop-rest-init
loop-rest-init g c =
    rw c.new-views.ensures.items (
      length c.args.bytes.now,
      omega arith,
      entries_are_read g.V.View.entry_in c.args.number c.args.max c.args.bytes.now,
    )
