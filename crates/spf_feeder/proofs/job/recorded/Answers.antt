use Rattle.std.proofs.Common.{sym, ap, ◌∙◌, map, subst}
use Rattle.spf_feeder.proofs.Joining.{paces_as, synced_as}
use Rattle.spf_feeder.specs.Records.{IsRecordBy, recorded_of}
use Rattle.spf_feeder.proofs.job.recorded.Goals as goal

pub new-record-requires : goal.new-record-requires
new-record-requires g c =
    let kind = g.S.Rules.Governs.kind in
    let session = c.into_session.result in
    let under = (g.S.Session.given session).rules in
    let run = (g.S.Session.progress session).run in
    let same = c.into_session.ensures.session in
    let parts = c.into_parts-publisher.ensures in
    let steps = c.finish-ended.result.1.items in
    subst (IsRecordBy g.S.Rules.Governs.plain kind)
    (λ i. recorded_of (sym parts.events i) steps (sym parts.rules i) c.args.pace c.args.closed)
    (record {
      orderly = parts.orderly;
      synced = synced_as kind _ _ _ _ (ap (λ core. (g.S.Session.given core).rules) same)
          (ap (λ core. (g.S.Session.progress core).run) same) c.requires.synced;
      steps_are = c.finish-ended.ensures.steps under run
          (subst (λ p. g.S.Session.publishes p under run) (sym parts.publisher) parts.published);
      paces = paces_as kind _ _ _ _ c.args.pace
          (ap (λ core. (g.S.Session.given core).rules) same)
          (ap (λ core. (g.S.Session.progress core).run) same) c.requires.paces;
      maker = c.requires.maker;
    })

pub invariant_of-result : goal.invariant_of-result
invariant_of-result g c = (
  ap (λ r. map g.S.Publisher.Finishes.shown r.steps) c.new-record.ensures.same
      ∙ c.finish-ended.ensures.shown,
  c.new-record.ensures.kept,
)
