use Rattle.std.proofs.Common.{◌≡◌, ◌<◌, length, arith, sym, rules, true}
use Rattle.std.proofs.lemmas.Bool.Decides.{nat_tests}
use Rattle.spf_messages.specs.Wire.{field_of}
use Rattle.spf_messages.specs.Folded.{context_with}
use Rattle.spf_messages.proofs.Fields.{field_left}
use Rattle.spf_messages.proofs.Contexts.{context_is_read}
use Rattle.spf_messages.proofs.context.read_members.Goals as goal

pub loop-rest-preserved : goal.loop-rest-preserved
loop-rest-preserved c =
    let some : 0 < length c.loop-rest.rest.now = grind (arith, nat_tests) in
    let added : c.in_ok-add.field-0 ≡ true = search rules in
    field_left context_with _ _ c.loop-rest.rest.now (field_of c.in-Some.field) c.in-Some.after.now
    _ some
    c.in-Some.ensures.exact c.in-Some.ensures.shorter (sym (rw added at c.in_ok-add.ensures))
    c.loop-rest.invariant

pub loop-rest-init : goal.loop-rest-init
loop-rest-init c =
    rw (c.new.ensures.items, c.new-2.ensures.items, c.new-3.ensures.items) (
      length c.args.bytes.now,
      omega arith,
      context_is_read c.args.bytes.now,
    )
