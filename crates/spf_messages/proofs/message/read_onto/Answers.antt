use Rattle.std.proofs.Common.{◌<◌, length, arith, sym}
use Rattle.std.proofs.lemmas.Bool.Decides.{nat_tests}
use Rattle.spf_messages.specs.Wire.{field_of}
use Rattle.spf_messages.proofs.Fields.{field_left}
use Rattle.spf_messages.proofs.message.read_onto.Goals as goal

pub loop-rest-preserved : goal.loop-rest-preserved
loop-rest-preserved g c =
    let some : 0 < length c.loop-rest.rest.now = grind (arith, nat_tests) in
    field_left g.M.Message.with_field _ _ c.loop-rest.rest.now (field_of c.in_ok-field.field)
    c.in_ok-field.after.now _ some
    c.in_ok-field.ensures.exact c.in_ok-field.ensures.shorter (sym c.in_ok-message.ensures)
    c.loop-rest.invariant
