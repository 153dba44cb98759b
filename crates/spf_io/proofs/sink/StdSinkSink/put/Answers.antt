use Rattle.std.proofs.Common.{◌≡◌, ◌+◌, ◌-◌, ◌++◌, length, take, drop, sym, ap, ◌∙◌, subst, rules}
use Rattle.std.proofs.Math.Seq.{take-add}
use Rattle.std.proofs.lemmas.List.{take_rest}
use Rattle.std.specs.Io.KnownBytes.{Appends}
use Rattle.std.proofs.KnownBytes.{Appends-trans}
use Rattle.spf_io.proofs.sink.StdSinkSink.put.Goals as goal

pub loop-at-preserved : goal.loop-at-preserved
loop-at-preserved g c =
    let piece = c.args.piece.now in
    let at = c.loop-at.at in
    let n = c.in-Ok.n in
    let e : take at piece ++ take n (take (length piece - at) (drop at piece))
    ≡ take (at + n) piece =
    ap (λ r. take at piece ++ take n r) (take_rest piece at) ∙ sym (take-add at n piece) in (
      search rules,
      subst (Appends _ _) e (Appends-trans _ _ _ _ _ c.loop-at.invariant.1 c.in-Ok.ensures.bytes),
      search rules,
    )
