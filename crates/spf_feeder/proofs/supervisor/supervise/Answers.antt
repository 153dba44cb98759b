use Rattle.std.proofs.Common.{rules, ◌∙◌, subst, sym}
use Rattle.spf_feeder.specs.Pacing.{Halted, KeepsPaceOf}
use Rattle.spf_feeder.proofs.OrderLemmas.{goes_further}
use Rattle.spf_feeder.proofs.supervisor.supervise.Goals as goal

pub returns-in-Err-clause-goes_on : goal.returns-in-Err-clause-goes_on
returns-in-Err-clause-goes_on g c =
    goes_further _ _ _ c.turns.invariant.goes_on c.in-Err.ensures.goes_on

pub returns-in-Err-clause-halted : goal.returns-in-Err-clause-halted
returns-in-Err-clause-halted g c =
    let loop = c.turns.invariant in
    let run = (g.S.Session.progress c.turns.feeder.core).run in
    let ended = (g.S.Session.progress c.paced_ask.new.feeder.core).run in
    subst (λ about. Halted (g.S.Rules.Governs.kind about.rules) ended c.paced_ask.new.pace)
    loop.given
    (c.in-Err.ensures.paces
    (subst (λ about. KeepsPaceOf (g.S.Rules.Governs.kind about.rules) run c.turns.pace)
    (sym loop.given)
    loop.keeps))

pub turns-preserved : goal.turns-preserved
turns-preserved g c =
    let loop = c.turns.invariant in
    let after = c.in-Ok.ensures in
    let run = (g.S.Session.progress c.turns.feeder.core).run in
    let longer = (g.S.Session.progress c.paced_ask.new.feeder.core).run in
    let paced = after.paces
    (subst (λ about. KeepsPaceOf (g.S.Rules.Governs.kind about.rules) run c.turns.pace)
    (sym loop.given)
    loop.keeps) in
    record {
      next = search rules;
      finite = search rules;
      given = after.given ∙ loop.given;
      first = after.first ∙ loop.first;
      goes_on = goes_further _ _ _ loop.goes_on after.goes_on;
      bounds = after.bounds ∙ loop.bounds;
      going = after.going;
      keeps = subst (λ about. KeepsPaceOf (g.S.Rules.Governs.kind about.rules) longer
          c.paced_ask.new.pace)
          loop.given paced;
    }
