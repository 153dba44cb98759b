use Rattle.std.proofs.Common.{◌≡◌, [], ◌∷◌, ◌++◌, arith, of_z, sym, ap, ◌∙◌, subst, to_z}
use Rattle.std.proofs.lemmas.Int.{ints, to_z-of_z}
use Rattle.std.specs.Int.{w64}
use Rattle.spf_feeder.specs.Fed.{EndsFor}
use Rattle.spf_feeder.specs.Pacing.{KeepsPaceOf}
use Rattle.spf_feed.specs.declared.event.SessionEvent.TheVariants as events
use Rattle.spf_feeder.proofs.StopLemmas.{ends_as, opens_as, stops_at_first}
use Rattle.spf_feeder.proofs.MomentLemmas.{paces_moment}
use Rattle.spf_feeder.proofs.opening.open_session.Goals as goal

pub synchronise-requires-clause-keeps : goal.synchronise-requires-clause-keeps
unfolding KeepsPaceOf
synchronise-requires-clause-keeps g c =
    let before = c.new-feeder.result.core in
    let after = c.take_moment.new.self.core in
    let run : (g.S.Session.progress before).run ≡ [] =
    ap (λ core. (g.S.Session.progress core).run) c.new-feeder.ensures.core ∙ c.requires.unused in
    let k = g.S.Rules.Governs.kind (g.S.Session.given after).rules in
    paces_moment k (g.S.Rules.Governs.lawful (g.S.Session.given after).rules)
    (g.S.Session.progress before).run
    (g.S.Session.progress after).run _ c.new-pace.result c.in_default.ensures.advances.run_is
    (subst (λ l. KeepsPaceOf k l c.new-pace.result) (sym run) c.new-pace.ensures.paces)

pub returns-in-Err-clause-ended : goal.returns-in-Err-clause-ended
returns-in-Err-clause-ended g c =
    let made = c.new-feeder.ensures in
    let k = g.S.Rules.Governs.kind (g.S.Session.given c.args.session).rules in
    let members = g.C.Connector.members c.args.connector in
    let same : to_z w64 (of_z w64 c.args.first) ≡ c.args.first =
    search (arith, ints, to_z-of_z) in
    stops_at_first k members _ c.args.first _
    (subst (λ m. EndsFor k members [] (events.Moment m) c.in-Err.stop) same
    (ends_as (λ core. g.S.Rules.Governs.kind (g.S.Session.given core).rules) g.C.Connector.members
    _ _ _ _ _ _ _ _ made.core made.first
    (ap (λ core. (g.S.Session.progress core).run) made.core ∙ c.requires.unused)
    c.in-Err.ensures.ended))

pub returns-in-Err-synchronise-clause-ended : goal.returns-in-Err-synchronise-clause-ended
returns-in-Err-synchronise-clause-ended g c =
    let made = c.new-feeder.ensures in
    let moved = c.in_default.ensures in
    let same : to_z w64 (of_z w64 c.args.first) ≡ c.args.first =
    search (arith, ints, to_z-of_z) in
    let begun : (g.S.Session.progress c.new-feeder.result.core).run ≡ [] =
    ap (λ core. (g.S.Session.progress core).run) made.core ∙ c.requires.unused in
    opens_as (λ about. g.S.Rules.Governs.kind about.rules) g.C.Connector.members _ _ _ _ _ _ _ _ _
    (moved.given ∙ ap g.S.Session.given made.core) (moved.first ∙ made.first)
    (moved.advances.run_is
    ∙ ap (λ run. run ++ events.Moment (to_z w64 (of_z w64 c.args.first)) ∷ []) begun
    ∙ ap (λ m. events.Moment m ∷ []) same)
    c.in-Err-synchronise.ensures.ended
