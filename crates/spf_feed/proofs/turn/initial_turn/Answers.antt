use Rattle.std.proofs.Common.{refl, ap}
use Rattle.std.proofs.lemmas.Bool.{iff_false}
use Rattle.spf_feed.specs.Turns.{refusal_by_code}
use Rattle.spf_feed.proofs.TurnLemmas.{no_refusal}
use Rattle.spf_api.specs.Errors.{status_code_of}
use Rattle.spf_feed.proofs.turn.initial_turn.Goals as goal

pub returns-then-is_invalid_argument-clause-turn : goal.returns-then-is_invalid_argument-clause-turn
returns-then-is_invalid_argument-clause-turn c =
    ap (λ o. refusal_by_code o c.args.answer)
    (c.is_invalid_argument.ensures.0 c.if-is_invalid_argument.true)

pub returns-then-is_unimplemented-clause-turn : goal.returns-then-is_unimplemented-clause-turn
returns-then-is_unimplemented-clause-turn c =
    ap (λ o. refusal_by_code o c.args.answer)
    (c.is_unimplemented.ensures.0 c.if-is_unimplemented.true)

pub returns-clause-turn : goal.returns-clause-turn
returns-clause-turn c = (
  no_refusal (status_code_of c.args.answer) c.args.answer
      (iff_false c.is_invalid_argument.ensures c.if-is_invalid_argument.false)
      (iff_false c.is_unimplemented.ensures c.if-is_unimplemented.false),
  refl,
  c.ended.ensures,
)
