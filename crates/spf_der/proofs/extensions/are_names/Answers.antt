use Rattle.std.proofs.Common.{◌<◌, length, arith, sym}
use Rattle.std.specs.Prelude.{is_some}
use Rattle.std.proofs.lemmas.Bool.Decides.{nat_tests}
use Rattle.spf_der.specs.Names.{uris_of}
use Rattle.spf_der.specs.Value.{seen}
use Rattle.spf_der.proofs.NameWalk.{tests_more}
use Rattle.spf_der.proofs.extensions.are_names.Goals as goal

pub loop-rest-preserved : goal.loop-rest-preserved
loop-rest-preserved c =
    let some : 0 < length c.loop-rest.rest.now = grind (arith, nat_tests) in
    tests_more c.loop-rest.rest.now (is_some (uris_of c.args.bytes.now)) (seen c.in-Some.field-0-0)
    c.in-Some.after.now some (sym c.in-Some.ensures.exact) c.in-Some.ensures.shorter
    c.loop-rest.invariant
