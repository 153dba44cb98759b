use Rattle.std.proofs.Common.{◌≡◌, ◌++◌, ◌∷◌, [], List, refl, sym, ap, ◌∙◌, subst}
use Rattle.std.proofs.Common.{true, reverse}
use Rattle.std.specs.Prelude.{◌||◌}
use Rattle.spf_jwt_feed.specs.Items.{Event, Rules, item_in, subject}
use Rattle.spf_jwt_feed.specs.Run.{ask_of, stream}
use Rattle.spf_feeder.specs.Orderly.{IsOrderlyOf, does_answer, is_moment}
use Rattle.spf_feeder.proofs.OrderLemmas.{orderly_more}
use Rattle.spf_feeder.specs.Kept.{progress}
use Rattle.spf_jwt_source.specs.Governed.{rules_of}
use Rattle.spf_jwt_source.specs.Kept.{Published}
use Rattle.spf_jwt_source.specs.Kinds.{jwt}
use Rattle.spf_jwt_source.specs.Orderly.{IsOrderly}
use Rattle.spf_feeder.proofs.RunLemmas.{advanced_of, published_still, pushed, stopped_of}
use Rattle.spf_jwt_source.proofs.RunLemmas.{going_at}
use Rattle.spf_jwt_source.proofs.session.JwtSessionSession.advance.Goals as goal

pub returns-in-Err-clause-published : goal.returns-in-Err-clause-published
returns-in-Err-clause-published g c =
    let before = c.self.inside in
    let rule : Rules = rules_of before.rules in
    published_still (subject rule) before.events.items _ _ _ c.reserve.ensures.items
    c.in-Err.ensures.refused c.self.invariant.0

pub returns-in-Err-clause-advances : goal.returns-in-Err-clause-advances
returns-in-Err-clause-advances g c =
    let before = c.self.inside in
    let rule : Rules = rules_of before.rules in
    let going = ap (λ core. core.stuck) c.self.view_is ∙ c.requires.going in
    stopped_of (λ core. jwt (rules_of core.rules)) progress g.M.JwtMetricsRecorder.records _ _
    _ _ _ c.self.view_is
    (c.in-Err.ensures.takes before.events.items c.self.invariant.0
    (c.self.invariant.1 going)) c.reserve.ensures.items refl

pub invariant_of-self-in-Err : goal.invariant_of-self-in-Err
invariant_of-self-in-Err g c =
    let before = c.self.inside in
    let rule : Rules = rules_of before.rules in (
      published_still (subject rule) before.events.items _ _ _ c.reserve.ensures.items
          c.in-Err.ensures.refused c.self.invariant.0,
      λ f. absurd cc,
      subst (λ run. IsOrderly rule (reverse run)) (sym {A = List Event} c.reserve.ensures.items)
          c.self.invariant.2,
    )

pub returns-in_err-record_all-clause-published : goal.returns-in_err-record_all-clause-published
returns-in_err-record_all-clause-published g c =
    let before = c.self.inside in
    let rule : Rules = rules_of before.rules in
    let items : c.push_reserved.new.self.items ≡ before.events.items ++ c.args.event ∷ [] =
    pushed before.events.items _ _ c.args.event c.push_reserved.ensures.items
    c.reserve.ensures.items in
    let going = ap (λ core. core.stuck) c.self.view_is ∙ c.requires.going in
    let done = c.in-Ok.ensures.takes before.events.items c.self.invariant.0
    (c.self.invariant.1 going) in
    subst (λ run. Published (g.P.JwtPublisher.steps c.take.new.publisher) rule run) (sym items)
    done.published

pub invariant_of-self-in_err-record_all : goal.invariant_of-self-in_err-record_all
unfolding IsOrderlyOf
invariant_of-self-in_err-record_all g c =
    let before = c.self.inside in
    let rule : Rules = rules_of before.rules in
    let items : c.push_reserved.new.self.items ≡ before.events.items ++ c.args.event ∷ [] =
    pushed before.events.items _ _ c.args.event c.push_reserved.ensures.items
    c.reserve.ensures.items in
    let going = ap (λ core. core.stuck) c.self.view_is ∙ c.requires.going in
    let done = c.in-Ok.ensures.takes before.events.items c.self.invariant.0
    (c.self.invariant.1 going) in (
      subst (λ run. Published (g.P.JwtPublisher.steps c.take.new.publisher) rule run) (sym items)
          done.published,
      λ f. absurd cc,
      subst (λ run. IsOrderly rule (reverse run)) (sym items)
          (orderly_more (ask_of item_in rule) (stream rule).refusal before.events.items
          c.args.event
          (subst (λ core.
          (is_moment c.args.event || does_answer (ask_of item_in
          (rules_of core.rules) (reverse core.run))
          c.args.event) ≡ true) (sym c.self.view_is) c.requires.fits)
          done.none c.self.invariant.2),
    )

pub returns-clause-published : goal.returns-clause-published
returns-clause-published g c =
    let before = c.self.inside in
    let rule : Rules = rules_of before.rules in
    let items : c.push_reserved.new.self.items ≡ before.events.items ++ c.args.event ∷ [] =
    pushed before.events.items _ _ c.args.event c.push_reserved.ensures.items
    c.reserve.ensures.items in
    let going = ap (λ core. core.stuck) c.self.view_is ∙ c.requires.going in
    let done = c.in-Ok.ensures.takes before.events.items c.self.invariant.0
    (c.self.invariant.1 going) in
    subst (λ run. Published (g.P.JwtPublisher.steps c.take.new.publisher) rule run) (sym items)
    done.published

pub invariant_of-self-2 : goal.invariant_of-self-2
unfolding IsOrderlyOf
invariant_of-self-2 g c =
    let before = c.self.inside in
    let rule : Rules = rules_of before.rules in
    let items : c.push_reserved.new.self.items ≡ before.events.items ++ c.args.event ∷ [] =
    pushed before.events.items _ _ c.args.event c.push_reserved.ensures.items
    c.reserve.ensures.items in
    let going = ap (λ core. core.stuck) c.self.view_is ∙ c.requires.going in
    let done = c.in-Ok.ensures.takes before.events.items c.self.invariant.0
    (c.self.invariant.1 going) in (
      subst (λ run. Published (g.P.JwtPublisher.steps c.take.new.publisher) rule run) (sym items)
          done.published,
      λ f. going_at rule _ _ (g.P.JwtPublisher.steps c.take.new.publisher) _ _ _ items done.going,
      subst (λ run. IsOrderly rule (reverse run)) (sym items)
          (orderly_more (ask_of item_in rule) (stream rule).refusal before.events.items
          c.args.event
          (subst (λ core.
          (is_moment c.args.event || does_answer (ask_of item_in
          (rules_of core.rules) (reverse core.run))
          c.args.event) ≡ true) (sym c.self.view_is) c.requires.fits)
          done.none c.self.invariant.2),
    )

pub returns-clause-advances : goal.returns-clause-advances
returns-clause-advances g c =
    let before = c.self.inside in
    let rule : Rules = rules_of before.rules in
    let items : c.push_reserved.new.self.items ≡ before.events.items ++ c.args.event ∷ [] =
    pushed before.events.items _ _ c.args.event c.push_reserved.ensures.items
    c.reserve.ensures.items in
    let going = ap (λ core. core.stuck) c.self.view_is ∙ c.requires.going in
    advanced_of (λ core. jwt (rules_of core.rules)) progress g.M.JwtMetricsRecorder.records _ _
    _ _ _ _ _ _ c.self.view_is
    (c.in-Ok.ensures.takes before.events.items c.self.invariant.0
    (c.self.invariant.1 going)) items refl c.in_ok-record_all.ensures

pub returns-in-Err-clause-orderly : goal.returns-in-Err-clause-orderly
returns-in-Err-clause-orderly g c = (invariant_of-self-in-Err g c).2

pub returns-in_err-record_all-clause-orderly : goal.returns-in_err-record_all-clause-orderly
returns-in_err-record_all-clause-orderly g c = (invariant_of-self-in_err-record_all g c).2

pub returns-clause-orderly : goal.returns-clause-orderly
returns-clause-orderly g c = (invariant_of-self-2 g c).2
