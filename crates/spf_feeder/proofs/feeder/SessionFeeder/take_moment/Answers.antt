use Rattle.std.proofs.Common.{◌≡◌, arith, ap, ◌∙◌, of_z, subst, to_z}
use Rattle.std.proofs.lemmas.Int.{ints, to_z-of_z}
use Rattle.std.specs.Int.{w64}
use Rattle.spf_feed.specs.declared.event.SessionEvent.TheVariants as events
use Rattle.spf_feeder.specs.Kept.{AdvancesBy}
use Rattle.std.specs.Prelude.{IfErr}
use Rattle.spf_feeder.specs.Fed.{EndsFor}
use Rattle.spf_feeder.proofs.FeedLemmas.{ends_at_moment, fed_still}
use Rattle.spf_feeder.proofs.feeder.SessionFeeder.take_moment.Goals as goal

pub invariant_of-self : goal.invariant_of-self
invariant_of-self g c =
    let before = c.self.inside.session in
    let going = ap (λ f. (g.S.Session.progress f.core).stuck) c.self.view_is ∙ c.requires.going in
    fed_still g.C.Connector g.C.Link.Link g.S.Session.records
    (g.S.Rules.Governs.kind (g.S.Session.given before).rules) _
    (g.S.Rules.Governs.lawful (g.S.Session.given before).rules) _ _ _ _ _ _
    c.advance.ensures.advances
    (ap (λ about. g.S.Rules.Governs.kind about.rules) c.advance.ensures.given) going
    c.self.invariant

pub returns-clause-ended : goal.returns-clause-ended
returns-clause-ended g c =
    let before = c.self.inside.session in
    let k = g.S.Rules.Governs.kind (g.S.Session.given before).rules in
    let same : to_z w64 (of_z w64 c.args.moment) ≡ c.args.moment =
    search (arith, ints, to_z-of_z) in
    subst (λ f.
    IfErr c.advance.result (EndsFor (g.S.Rules.Governs.kind (g.S.Session.given f.core).rules)
    (g.C.Connector.members f.first) (g.S.Session.progress f.core).run
    (events.Moment c.args.moment))) c.self.view_is
    (subst (λ m.
    IfErr c.advance.result (EndsFor k (g.C.Connector.members c.self.inside.first.value)
    (g.S.Session.progress before).run (events.Moment m))) same
    (ends_at_moment g.C.Connector g.C.Link.Link g.S.Session.records k _ _ _ _ _ _ _
    c.advance.ensures.advances
    (ap (λ about. g.S.Rules.Governs.kind about.rules) c.advance.ensures.given)
    c.advance.ensures.orderly c.self.invariant))

pub returns-clause-advances : goal.returns-clause-advances
returns-clause-advances g c =
    let before = c.self.inside.session in
    let same : to_z w64 (of_z w64 c.args.moment) ≡ c.args.moment =
    search (arith, ints, to_z-of_z) in
    subst (λ f.
    AdvancesBy (g.S.Rules.Governs.kind (g.S.Session.given f.core).rules) g.S.Session.records
    (g.S.Session.progress f.core) (events.Moment c.args.moment) c.advance.result
    (g.S.Session.progress c.advance.new.self)) c.self.view_is
    (subst (λ m.
    AdvancesBy (g.S.Rules.Governs.kind (g.S.Session.given before).rules) g.S.Session.records
    (g.S.Session.progress before) (events.Moment m) c.advance.result
    (g.S.Session.progress c.advance.new.self)) same c.advance.ensures.advances)
