use Rattle.std.proofs.Common.{◌≡◌, ap, ◌∙◌, sym, subst, ◌+◌, ◌<◌, arith, w64}
use Rattle.std.proofs.Common.{of_z, to_z, ◌+ℤ◌}
use Rattle.std.specs.Prelude.{pos}
use Rattle.std.proofs.lemmas.Int.{ints, to_z-of_z}
use Rattle.std.proofs.lemmas.Result.{IfOk-weaker}
use Rattle.spf_der.specs.WrittenTime.{IsWritable, expiry_text}
use Rattle.spf_watch.proofs.GeneratedLemmas.{is_expiry}
use Rattle.spf_watch.proofs.generated.expiry_time.Goals as goal

pub returns : goal.returns
returns c =
    let n = c.args.generation in
    let fits : n < 73600 = omega (arith, c.ranges.generation.fits) in
    let moment =
    to_z w64 (of_z w64 (pos 2000000000 +ℤ to_z w64 (of_z w64 c.from.result))) in
    let same : moment ≡ pos (2000000000 + n) = search (arith, ints, to_z-of_z) in
    let early : IsWritable (pos (2000000000 + n)) = search (arith, ints) in
    IfOk-weaker c.write_time.result _ _
    (λ v e. is_expiry n v.items fits (e ∙ ap expiry_text same))
    (c.write_time.ensures.text (subst IsWritable (sym same) early))
