use Rattle.std.proofs.Common.{sym, ap, ◌∙◌, subst}
use Rattle.std.specs.Prelude.{IfErr}
use Rattle.spf_feeder.specs.Fed.{StopsFor, with_core}
use Rattle.spf_feeder.proofs.FeedLemmas.{fed_more, stays_idle, stops_by, turned_of, unyielded_of}
use Rattle.spf_feeder.proofs.TurnLemmas.{turn_goes}
use Rattle.spf_feeder.proofs.feeder.SessionFeeder.ask_once.Goals as goal

pub returns-then-is_stuck-clause-turn : goal.returns-then-is_stuck-clause-turn
returns-then-is_stuck-clause-turn g c =
    stays_idle _ g.C.Connector g.C.Link.Link (with_core g.S.Session.progress c.args.self.now)
    (ap (λ f. (g.S.Session.progress f.core).stuck) (sym c.self.view_is)
    ∙ sym c.is_stuck.ensures.stuck ∙ c.if-is_stuck.true)

pub returns-in-Err-clause-turn : goal.returns-in-Err-clause-turn
returns-in-Err-clause-turn g c =
    let going = sym c.is_stuck.ensures.stuck ∙ c.if-is_stuck.false in
    unyielded_of (λ f. g.S.Rules.Governs.kind (g.S.Session.given f.core).rules)
    (with_core g.S.Session.progress) g.C.Connector g.C.Link.Link _ _ _ _ _ c.self.view_is
    c.phase-phase.ensures c.in-Err.ensures
    (ap (λ core. core.run) c.stop.ensures.unchanged)
    (ap (λ core. core.stuck) c.stop.ensures.unchanged) going

pub returns-in-Ok-clause-turn : goal.returns-in-Ok-clause-turn
returns-in-Ok-clause-turn g c =
    let going = sym c.is_stuck.ensures.stuck ∙ c.if-is_stuck.false in
    turned_of (λ f. g.S.Rules.Governs.kind (g.S.Session.given f.core).rules)
    (with_core g.S.Session.progress) g.C.Connector g.C.Link.Link g.S.Session.records _ _ _ _ _ _
    c.self.view_is c.phase-phase.ensures c.in-Ok.ensures c.advance.ensures.advances going

pub returns-in-Ok-clause-goes_on : goal.returns-in-Ok-clause-goes_on
returns-in-Ok-clause-goes_on g c = turn_goes _ _ _ _ _ _ _ (returns-in-Ok-clause-turn g c)

pub invariant_of-self : goal.invariant_of-self
invariant_of-self g c =
    let before = c.self.inside.session in
    let going = sym c.is_stuck.ensures.stuck ∙ c.if-is_stuck.false in
    fed_more g.C.Connector g.C.Link.Link g.S.Session.records
    (g.S.Rules.Governs.kind (g.S.Session.given before).rules) _
    (g.S.Rules.Governs.lawful (g.S.Session.given before).rules) _ _ _ _ _ _ _ _
    c.phase-phase.ensures
    c.in-Ok.ensures c.advance.ensures.advances
    (ap (λ about. g.S.Rules.Governs.kind about.rules) c.advance.ensures.given) going
    c.self.invariant

pub returns-in-Ok-clause-ended : goal.returns-in-Ok-clause-ended
returns-in-Ok-clause-ended g c =
    let before = c.self.inside.session in
    let going = sym c.is_stuck.ensures.stuck ∙ c.if-is_stuck.false in
    subst (λ f.
    IfErr c.advance.result (StopsFor (g.S.Rules.Governs.kind (g.S.Session.given f.core).rules)
    (g.C.Connector.members f.first) (g.S.Session.progress f.core).run)) c.self.view_is
    (stops_by g.C.Connector g.C.Link.Link g.S.Session.records
    (g.S.Rules.Governs.kind (g.S.Session.given before).rules) _ _ _ _ _ _ _ _ _
    c.phase-phase.ensures c.in-Ok.ensures c.advance.ensures.advances
    (ap (λ about. g.S.Rules.Governs.kind about.rules) c.advance.ensures.given) going
    c.advance.ensures.orderly c.self.invariant)
