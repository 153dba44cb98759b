use Rattle.std.proofs.Common.{rules, ◌≡◌, [], ◌∷◌, List, Option, ap, arith, of_z, refl, subst, sym, to_z}
use Rattle.std.proofs.lemmas.Int.{ints, to_z-of_z}
use Rattle.std.specs.Int.{w64}
use Rattle.spf_feeder.specs.Governed.{kind_by}
use Rattle.spf_feeder.specs.Kept.{Given}
use Rattle.spf_feeder.specs.declared.x509_rules.X509Rules.{X509Rules}
use Rattle.std.specs.Prelude.{ℤ}
use Rattle.spf_link.specs.Connecting.{Member}
use Rattle.spf_feed.specs.declared.event.SessionEvent.TheVariants as events
use Rattle.spf_feeder.specs.Opened.{meeting}
use Rattle.spf_feeder.proofs.StopLemmas.{opens_as, stops_later}
use Rattle.spf_feeder.proofs.TimeLemmas.{gives_moment}
use Rattle.spf_feeder.proofs.Joining.{opened_of}
use Rattle.spiffe.specs.Building.{SyncFails}
use Rattle.spiffe.proofs.Failing.{refused_fails, stopped_fails}
use Rattle.spiffe.proofs.opening.synchronised.Goals as goal

pub returns-in-Err-clause-failed : goal.returns-in-Err-clause-failed
returns-in-Err-clause-failed g c =
    subst (SyncFails g.P.SvidPicker.picks c.args.settings
    (meeting (g.C.Connector.validates c.args.connector) (g.C.Connector.members c.args.connector)
    (g.T.Clock.moments c.args.clock.now) (g.T.Clock.moments c.args.clock.now)))
    (sym c.refused_endpoint.ensures)
    (refused_fails g.P.SvidPicker.picks c.args.settings _ c.in-Err.e c.in-Err.ensures.result)

pub returns-in-Ok-clause-opened : goal.returns-in-Ok-clause-opened
returns-in-Ok-clause-opened g c =
    let first = c.first_moment-first.result in
    let same : to_z w64 (of_z w64 first) ≡ first = search (arith, ints, to_z-of_z) in
    let was = c.in-Ok.ensures in
    opened_of (λ (about : Given (X509Rules g.row.P.Denot)).
    kind_by g.P.SvidPicker.picks about.rules) _ _ _ _ _ _ _ first _ _ c.in-Ok.opened.1 was.given
    c.make_ready.ensures.members same c.first_moment-first.ensures.moment was.synced was.timed
    was.orderly was.yielded was.once was.clock was.paces

pub returns-in-Err-opened-clause-failed : goal.returns-in-Err-opened-clause-failed
returns-in-Err-opened-clause-failed g c =
    let first = c.first_moment-first.result in
    let same : to_z w64 (of_z w64 first) ≡ first = search (arith, ints, to_z-of_z) in
    subst (SyncFails g.P.SvidPicker.picks c.args.settings
    (meeting (g.C.Connector.validates c.args.connector) (g.C.Connector.members c.args.connector)
    (g.T.Clock.moments c.args.clock.now) (g.T.Clock.moments c.open_session-opened.new.clock)))
    (sym c.stopped.ensures)
    (stopped_fails g.P.SvidPicker.picks c.args.settings _ c.in-Err-opened.stop c.in_default.ensures.result
    (record {
      deadline = c.deadline_of.result;
      counts = search rules;
      stops = stops_later _ _ _ _ _ _ _ c.in-Err-opened.stop
          (gives_moment _ _ first [] _ c.first_moment-first.ensures.moment
          (ap (λ (n : ℤ). events.Moment n ∷ []) same))
          (opens_as (λ core. kind_by g.P.SvidPicker.picks core.rules) (λ (m : Option (List Member)). m) _ _ _ _ _ _ _ _ _
          c.new-session.ensures c.make_ready.ensures.members refl c.in-Err-opened.ensures.ended);
    }))
