use Rattle.std.proofs.Common.{◌+◌, ◌∙◌, refl, List, ℕ, Ok, Err, subst, arith, rules}
use Rattle.std.specs.Prelude.{string_bytes}
use Rattle.std.specs.Io.KnownBytes.{prepend_known}
use Rattle.spf_gate.specs.Serving.{AnswersAsk, AnswersPart}
use Rattle.spf_gate.proofs.PolicyLemmas.{nearer}
use Rattle.spf_gate.proofs.CutLemmas.{cut_between, cut_in_ask}
use Rattle.spf_gate.proofs.ServeLemmas.{asked_until, asking_more, asking_none, retake}
use Rattle.spf_gate.proofs.ServeLemmas.{sees_more, sees_same}
use Rattle.spf_gate.proofs.serve.answer_asks.Goals as goal

pub returns-in-Err-clause-serves : goal.returns-in-Err-clause-serves
returns-in-Err-clause-serves g c = λ uncut.
    let mid = prepend_known c.loop-is_line.lines.octets.items (g.S.Source.left c.loop-is_line.input)
    in
    let new = prepend_known c.take_line.new.self.octets.items
    (g.S.Source.left c.take_line.new.source) in
    let takes = retake c.args.lines.now.max c.loop-is_line.lines.max
    (c.loop-is_line.lines.number + 1) mid new (string_bytes c.take_line.new.text) (Err c.in-Err.e)
    c.loop-is_line.invariant.1 c.in-Err.ensures.takes in
    asked_until c.args.lines.now.max (c.args.lines.now.number + 1) _ mid new c.args.rules.now _
    c.loop-is_line.pass _ (g.K.Sink.held c.loop-is_line.out) c.loop-is_line.lines.number
    (string_bytes c.take_line.new.text) c.in-Err.e uncut c.loop-is_line.invariant.0 takes

pub returns-in-Err-clause-cut : goal.returns-in-Err-clause-cut
returns-in-Err-clause-cut g c = λ is.
    let mid = prepend_known c.loop-is_line.lines.octets.items (g.S.Source.left c.loop-is_line.input)
    in
    cut_between c.args.lines.now.max (c.args.lines.now.number + 1) _ mid c.args.rules.now _
    c.loop-is_line.pass c.loop-is_line.pass _ (g.K.Sink.held c.loop-is_line.out)
    c.loop-is_line.lines.number c.in-Err.e c.loop-is_line.invariant.0
    (sees_same c.loop-is_line.pass)

pub returns-in-Err-answer_ask-clause-cut : goal.returns-in-Err-answer_ask-clause-cut
returns-in-Err-answer_ask-clause-cut g c = λ is.
    let mid = prepend_known c.loop-is_line.lines.octets.items (g.S.Source.left c.loop-is_line.input)
    in
    let new = prepend_known c.take_line.new.self.octets.items
    (g.S.Source.left c.take_line.new.source) in
    let text = string_bytes c.take_line.new.text in
    let so = c.loop-is_line.invariant in
    let takes = retake c.args.lines.now.max c.loop-is_line.lines.max
    (c.loop-is_line.lines.number + 1) mid new text (Ok c.in-Ok.is_line) so.1 c.in-Ok.ensures.takes
    in
    let part = subst (λ (a : List ℕ). AnswersPart c.args.rules.now c.answer_ask.new.pass.seen a
    (g.K.Sink.held c.loop-is_line.out) (g.K.Sink.held c.answer_ask.new.out) c.in-Err-answer_ask.e)
    c.as_str.ensures.value c.in-Err-answer_ask.ensures.part in
    cut_in_ask c.args.lines.now.max (c.args.lines.now.number + 1) _ mid new c.args.rules.now _
    c.loop-is_line.pass c.answer_ask.new.pass _ (g.K.Sink.held c.loop-is_line.out)
    (g.K.Sink.held c.answer_ask.new.out) c.loop-is_line.lines.number text c.in-Ok.is_line
    c.in-Err-answer_ask.e so.0 takes (search rules) c.in-Err-answer_ask.ensures.pass
    c.in-Err-answer_ask.ensures.reads part

pub loop-is_line-init : goal.loop-is_line-init
loop-is_line-init g c = (
  asking_none _ _ _ _ _ _,
  refl,
  sees_same _,
  omega arith,
  omega arith,
  search rules,
)

pub loop-is_line-smaller : goal.loop-is_line-smaller
loop-is_line-smaller g c =
    nearer _ _ _ _ _ _ _ c.in-Ok.is_line c.in-Ok.ensures.takes (search rules) c.in-Ok.ensures.number
    c.in-Ok.ensures.max

pub loop-is_line-preserved : goal.loop-is_line-preserved
loop-is_line-preserved g c =
    let mid = prepend_known c.loop-is_line.lines.octets.items (g.S.Source.left c.loop-is_line.input)
    in
    let new = prepend_known c.take_line.new.self.octets.items
    (g.S.Source.left c.take_line.new.source) in
    let text = string_bytes c.take_line.new.text in
    let so = c.loop-is_line.invariant in
    let takes = retake c.args.lines.now.max c.loop-is_line.lines.max
    (c.loop-is_line.lines.number + 1) mid new text (Ok c.in-Ok.is_line) so.1 c.in-Ok.ensures.takes
    in
    let answers = subst (λ (a : List ℕ). AnswersAsk c.args.rules.now c.answer_ask.new.pass.seen a
    (g.K.Sink.held c.loop-is_line.out) (g.K.Sink.held c.answer_ask.new.out))
    c.as_str.ensures.value c.in-Ok-answer_ask.ensures.answers in (
      asking_more c.args.lines.now.max (c.args.lines.now.number + 1) _ mid new c.args.rules.now _
          c.loop-is_line.pass c.answer_ask.new.pass _ (g.K.Sink.held c.loop-is_line.out)
          (g.K.Sink.held c.answer_ask.new.out) c.loop-is_line.lines.number
          c.take_line.new.self.number text c.in-Ok.is_line so.0 takes (search rules)
          c.in-Ok.ensures.number c.in-Ok-answer_ask.ensures.reads answers,
      c.in-Ok.ensures.max ∙ so.1,
      sees_more _ c.loop-is_line.pass _ so.2 c.in-Ok-answer_ask.ensures.pass,
      omega (arith, so.3, c.in-Ok.ensures.cause.later),
      omega (arith, so.4, c.in-Ok-answer_ask.ensures.cause.later),
      so.5,
    )
