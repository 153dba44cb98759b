use Rattle.std.proofs.Common.{rules, ◌≡◌, false, reverse, refl, sym, ap, ◌∙◌, subst}
use Rattle.std.proofs.lemmas.Result.{err_from_is_err_and}
use Rattle.spf_view.specs.Views.{has_synced}
use Rattle.std.specs.Prelude.{IfSome}
use Rattle.spf_feeder.specs.Coming.{AllYieldedOf}
use Rattle.spf_feeder.specs.Orderly.{AddsAnswerTo, IsAboutToAsk, IsOrderlyOf}
use Rattle.spf_feeder.specs.Pacing.{KeepsPaceOf}
use Rattle.spf_feeder.proofs.FeedLemmas.{opening_after, timed_after}
use Rattle.spf_feeder.proofs.StopLemmas.{asks_as, opens_as, stops_at_ask, stops_later}
use Rattle.spf_feeder.proofs.OrderLemmas.{first_step, no_moment}
use Rattle.spf_feeder.proofs.TimeLemmas.{gives_more, gives_still}
use Rattle.spf_feeder.proofs.synchronisation.synchronise.Goals as goal

pub returns-in_err-moment_before-clause-ended : goal.returns-in_err-moment_before-clause-ended
returns-in_err-moment_before-clause-ended g c =
    let loop = c.asks.invariant in
    let p = err_from_is_err_and c.from_residual.result c.from_residual.ensures.1 in
    rw (p.1, p.2)
    (stops_later (g.S.Rules.Governs.kind (g.S.Session.given c.args.feeder.now.core).rules)
    (g.C.Connector.members c.args.feeder.now.first) _ _ _ _
    (g.S.Session.progress c.asks.feeder.core).run _ loop.clock
    (opens_as (λ about. g.S.Rules.Governs.kind about.rules) g.C.Connector.members _ _ _ _ _ _ _ _ _
    loop.given loop.first refl c.in_err-moment_before.ensures.ended))

pub returns-in_err-paced_ask-clause-ended : goal.returns-in_err-paced_ask-clause-ended
returns-in_err-paced_ask-clause-ended g c =
    let before = c.in_ok-moment_before.ensures in
    let p = err_from_is_err_and c.from_residual-in_err-paced_ask.result
    c.from_residual-in_err-paced_ask.ensures.1 in
    let loop = c.asks.invariant in
    let asked = (g.S.Session.progress c.moment_before.new.feeder.core).run in
    rw (p.1, p.2)
    (stops_at_ask (g.S.Rules.Governs.kind (g.S.Session.given c.args.feeder.now.core).rules)
    (g.C.Connector.members c.args.feeder.now.first) _ _ _ asked _
    (gives_more _ _ _ _ _ _ loop.clock before.clock)
    (subst (λ about. IsAboutToAsk (g.S.Rules.Governs.kind about.rules) asked) loop.given
    before.timed)
    (asks_as (λ about. g.S.Rules.Governs.kind about.rules) g.C.Connector.members _ _ _ _ asked _
    (before.given ∙ loop.given) (before.handed ∙ loop.first) c.in_err-paced_ask.ensures.ended))

pub returns-then-is_synced-clause-synced : goal.returns-then-is_synced-clause-synced
returns-then-is_synced-clause-synced g c =
    let same = c.in_ok-paced_ask.ensures.given ∙ c.in_ok-moment_before.ensures.given
    ∙ c.asks.invariant.given in
    ap (λ about. has_synced (g.S.Rules.Governs.kind about.rules).subject
    (reverse (g.S.Session.progress c.paced_ask.new.feeder.core).run)) (sym same)
    ∙ sym c.is_synced.ensures.synced ∙ c.if-is_synced.true

pub returns-then-is_synced-clause-timed : goal.returns-then-is_synced-clause-timed
returns-then-is_synced-clause-timed g c =
    let loop = c.asks.invariant in
    let before = c.in_ok-moment_before.ensures in
    let asked = (g.S.Session.progress c.moment_before.new.feeder.core).run in
    let ended = (g.S.Session.progress c.paced_ask.new.feeder.core).run in
    timed_after (g.S.Rules.Governs.kind (g.S.Session.given c.args.feeder.now.core).rules) asked
    ended
    (subst (λ about. IsAboutToAsk (g.S.Rules.Governs.kind about.rules) asked) loop.given
    before.timed)
    (subst (λ about. AddsAnswerTo (g.S.Rules.Governs.kind about.rules).ask asked ended)
    (before.given ∙ loop.given) c.in_ok-paced_ask.ensures.adds)

pub returns-then-is_synced-clause-once : goal.returns-then-is_synced-clause-once
returns-then-is_synced-clause-once g c =
    let before = c.in_ok-moment_before.ensures in
    let adds = c.in_ok-paced_ask.ensures.adds in
    let asked = (g.S.Session.progress c.moment_before.new.feeder.core).run in
    let about = subst (λ about. IsAboutToAsk (g.S.Rules.Governs.kind about.rules) asked)
    c.asks.invariant.given before.timed in
    first_step (g.S.Rules.Governs.kind (g.S.Session.given c.args.feeder.now.core).rules).subject
    asked _
    adds.event adds.run_is about.unsynced (returns-then-is_synced-clause-synced g c)

pub returns-then-is_synced-clause-orderly : goal.returns-then-is_synced-clause-orderly
returns-then-is_synced-clause-orderly g c =
    let run = (g.S.Session.progress c.paced_ask.new.feeder.core).run in
    subst (λ about. IsOrderlyOf (g.S.Rules.Governs.kind about.rules) (reverse run))
    (c.in_ok-paced_ask.ensures.given ∙ c.in_ok-moment_before.ensures.given
    ∙ c.asks.invariant.given) c.is_synced.ensures.orderly

pub returns-then-is_synced-clause-yielded : goal.returns-then-is_synced-clause-yielded
returns-then-is_synced-clause-yielded g c =
    let after = c.paced_ask.new.feeder in
    let run = (g.S.Session.progress after.core).run in
    subst (λ about. IfSome (g.C.Connector.members after.first)
    (λ m. AllYieldedOf (g.S.Rules.Governs.kind about.rules) m (reverse run)))
    (c.in_ok-paced_ask.ensures.given ∙ c.in_ok-moment_before.ensures.given
    ∙ c.asks.invariant.given) c.is_synced.ensures.yielded

pub returns-then-is_synced-clause-clock : goal.returns-then-is_synced-clause-clock
returns-then-is_synced-clause-clock g c =
    let before = c.in_ok-moment_before.ensures in
    let added = c.in_ok-paced_ask.ensures.adds in
    gives_still _ _ _ _ _ added.event (no_moment _ added.event added.answers) added.run_is
    (gives_more _ _ _ _ _ _ c.asks.invariant.clock before.clock)

pub asks-preserved : goal.asks-preserved
asks-preserved g c =
    let loop = c.asks.invariant in
    let before = c.in_ok-moment_before.ensures in
    let after = c.in_ok-paced_ask.ensures in
    let k = g.S.Rules.Governs.kind (g.S.Session.given c.args.feeder.now.core).rules in
    let run = (g.S.Session.progress c.asks.feeder.core).run in
    let middle = (g.S.Session.progress c.moment_before.new.feeder.core).run in
    let ended = (g.S.Session.progress c.paced_ask.new.feeder.core).run in
    let at_ask = before.given ∙ loop.given in
    let at_end = after.given ∙ at_ask in
    let about = subst (λ about. IsAboutToAsk (g.S.Rules.Governs.kind about.rules) middle) loop.given
    before.timed in
    let adds = subst (λ about. AddsAnswerTo (g.S.Rules.Governs.kind about.rules).ask middle ended)
    at_ask
    after.adds in
    let unsynced : has_synced k.subject (reverse ended) ≡ false =
    ap (λ about. has_synced (g.S.Rules.Governs.kind about.rules).subject (reverse ended))
    (sym at_end)
    ∙ sym c.is_synced.ensures.synced ∙ c.if-is_synced.false in
    let waited = before.paces c.asks.pace
    (subst (λ about. KeepsPaceOf (g.S.Rules.Governs.kind about.rules) run c.asks.pace)
    (sym loop.given)
    loop.keeps) in
    let paced = after.paces
    (subst (λ about. KeepsPaceOf (g.S.Rules.Governs.kind about.rules) middle c.asks.pace)
    (sym before.given)
    waited) in
    record {
      next = search rules;
      finite = search rules;
      given = at_end;
      first = after.first ∙ before.handed ∙ loop.first;
      bounds = after.bounds ∙ loop.bounds;
      going = after.going;
      keeps = subst (λ about. KeepsPaceOf (g.S.Rules.Governs.kind about.rules) ended
          c.paced_ask.new.pace)
          at_ask paced;
      timed = opening_after k middle ended about adds unsynced;
      clock = gives_still _ _ _ _ _ adds.event (no_moment _ adds.event adds.answers) adds.run_is
          (gives_more _ _ _ _ _ _ loop.clock before.clock);
    }
