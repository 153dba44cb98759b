use Rattle.std.proofs.Common.{◌≡◌, ap, sym, ◌∙◌, refl, arith, length, drop, length-drop}
use Rattle.spf_watch.proofs.generated_source.GeneratedSource.ready.Goals as goal

pub returns-then-self-len : goal.returns-then-self-len
returns-then-self-len c =
    let xs = c.self.inside.frames.items in
    let at = c.self.inside.at in
    let view : c.args.self.now.ready ≡ drop at xs = ap (λ r. r.ready) (sym c.self.view_is) in
    record {
      same = refl;
      ended = λ good none. let none_left : length (drop at xs) ≡ 0 = ap length (sym view ∙ none) in
          absurd (omega (arith, none_left, length-drop at xs, c.if-self-len.true, c.len.ensures));
      more = omega arith;
      failed = λ bad. absurd cc;
    }
