use Rattle.std.proofs.Common.{rules, ◌≡◌, [], ◌∷◌, ◌++◌, arith, of_z, refl, subst, to_z}
use Rattle.std.proofs.lemmas.Int.{ints, to_z-of_z}
use Rattle.std.specs.Int.{w64}
use Rattle.spf_feeder.specs.Fed.{EndsFor}
use Rattle.spf_feed.specs.declared.event.SessionEvent.TheVariants as events
use Rattle.spf_feeder.proofs.MomentLemmas.{paces_moment}
use Rattle.spf_feeder.proofs.StopLemmas.{stops_at_moment}
use Rattle.spf_feeder.proofs.TimeLemmas.{gives_moment}
use Rattle.spf_feeder.proofs.synchronisation.moment_before.Goals as goal

pub returns-in-Ok-clause-clock : goal.returns-in-Ok-clause-clock
returns-in-Ok-clause-clock g c =
    let run : (g.S.Session.progress c.take_moment.new.self.core).run
    ≡ (g.S.Session.progress c.args.feeder.now.core).run
    ++ events.Moment c.next_moment-moment.result ∷ [] = search rules in
    gives_moment _ _ c.next_moment-moment.result _ _ c.next_moment-moment.ensures.moment run

pub returns-in-Err-clause-ended : goal.returns-in-Err-clause-ended
returns-in-Err-clause-ended g c =
    let given = g.S.Session.given c.args.feeder.now.core in
    let run = (g.S.Session.progress c.args.feeder.now.core).run in
    let k = g.S.Rules.Governs.kind given.rules in
    let members = g.C.Connector.members c.args.feeder.now.first in
    let moment = c.next_moment-moment.result in
    let same : to_z w64 (of_z w64 moment) ≡ moment = search (arith, ints, to_z-of_z) in
    stops_at_moment k members _ _ run run moment _
    (subst (λ m. EndsFor k members run (events.Moment m) c.in-Err.stop) same c.in-Err.ensures.ended)
    c.requires.timed
    (gives_moment _ _ moment run _ c.next_moment-moment.ensures.moment refl)

pub returns-in-Ok-clause-paces : goal.returns-in-Ok-clause-paces
returns-in-Ok-clause-paces g c = λ pace keeps.
    let given = g.S.Session.given c.args.feeder.now.core in
    paces_moment (g.S.Rules.Governs.kind given.rules) (g.S.Rules.Governs.lawful given.rules)
    (g.S.Session.progress c.args.feeder.now.core).run
    (g.S.Session.progress c.take_moment.new.self.core).run _ pace
    c.in-Ok.ensures.advances.run_is keeps
