use Rattle.std.proofs.Common.{reverse, subst}
use Rattle.spf_feeder.specs.Governed.{rules_by}
use Rattle.spf_feeder.specs.Kept.{Published}
use Rattle.spf_feeder.specs.Orderly.{IsOrderly}
use Rattle.spf_feeder.proofs.x509_session.X509SessionSession.into_parts.Goals as goal

pub returns-clause-orderly : goal.returns-clause-orderly
returns-clause-orderly g c =
    subst (λ core.
    IsOrderly (rules_by g.K.SvidPicker.picks core.rules) (reverse core.run))
    c.self.view_is c.self.invariant.3

pub returns-clause-published : goal.returns-clause-published
returns-clause-published g c =
    subst (λ core. Published (g.P.Publisher.steps core.publisher)
    (rules_by g.K.SvidPicker.picks core.rules) core.run)
    c.self.view_is c.self.invariant.1
