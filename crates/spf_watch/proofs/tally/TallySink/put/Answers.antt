use Rattle.std.proofs.Common.{◌≡◌, ◌+◌, ◌-◌, ◌++◌, List, ℕ, length, take, drop, sym, ap, ◌∙◌}
use Rattle.std.proofs.Common.{append_assoc, arith, length-drop, length-take}
use Rattle.std.proofs.Math.Seq.{take-add}
use Rattle.std.proofs.lemmas.List.{take_rest}
use Rattle.spf_watch.proofs.tally.TallySink.put.Goals as goal

pub loop-at-preserved : goal.loop-at-preserved
loop-at-preserved c =
    let piece = c.args.piece.now in
    let held = c.args.self.now.held in
    let at = c.loop-at.at in
    let n = c.in-Ok.n in
    let more : take at piece ++ take n (take (length piece - at) (drop at piece))
    ≡ take (at + n) piece =
    ap (λ (r : List ℕ). take at piece ++ take n r) (take_rest piece at)
    ∙ sym (take-add at n piece) in (
      omega (
        arith,
        c.in-Ok.ensures.some,
        length-take (length piece - at) (drop at piece),
        length-drop at piece,
      ),
      c.in-Ok.ensures.held
          ∙ ap (λ (h : List ℕ). h ++ take n (take (length piece - at) (drop at piece)))
          c.loop-at.invariant.1
          ∙ append_assoc held (take at piece) (take n (take (length piece - at) (drop at piece)))
          ∙ ap (λ (l : List ℕ). held ++ l) more,
      c.take_line.ensures.failures ∙ c.loop-at.invariant.2,
    )
