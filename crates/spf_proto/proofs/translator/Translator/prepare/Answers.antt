use Rattle.std.proofs.Common.{◌≡◌, ◌∙◌, ap, sym, arith, drop, length, length-drop}
use Rattle.spf_proto.proofs.TranslatorLemmas.{at_end_left}
use Rattle.spf_proto.proofs.translator.Translator.prepare.Goals as goal

pub returns-then-self-len-clause-ready : goal.returns-then-self-len-clause-ready
returns-then-self-len-clause-ready g c =
    let xs = c.self.inside.latest.frames.items in
    let at = c.self.inside.at in
    let view = ap (λ r. r.ready) (sym c.self.view_is) in
    λ none. let none_left : length (drop at xs) ≡ 0 = ap length (sym view ∙ none) in
    absurd (omega (arith, none_left, length-drop at xs, c.if-self-len.true, c.len.ensures))

pub returns-then-self-len-clause-at_end : goal.returns-then-self-len-clause-at_end
returns-then-self-len-clause-at_end g c =
    let xs = c.self.inside.latest.frames.items in
    let at = c.self.inside.at in
    let view = ap (λ r. r.ready) (sym c.self.view_is) in
    λ none. let none_left : length (drop at xs) ≡ 0 = ap length (sym view ∙ none) in
    absurd (omega (arith, none_left, length-drop at xs, c.if-self-len.true, c.len.ensures))

pub returns-then-self-clause-at_end : goal.returns-then-self-clause-at_end
returns-then-self-clause-at_end g c =
    let ended = c.self.invariant.4.at_end c.if-self.true in
    λ ready. at_end_left g.T.LentSource.left g.N.Origin.begin.rules g.N.Origin.begin.start _
    c.args.self.now c.self.view_is (ap (λ r. r.ready) c.self.view_is ∙ ready) ended.0 ended.1
