use Rattle.std.proofs.Common.{ap, ◌∙◌}
use Rattle.spf_feeder.proofs.Unyielded.{assigned_as, built_as}
use Rattle.spiffe.proofs.source.X509Source.new.Goals as goal

pub returns-in-Ok-clause-built : goal.returns-in-Ok-clause-built
returns-in-Ok-clause-built g c =
    built_as _ _ _ _ _ _ _ c.started.ensures.1 (c.started.ensures.0 ∙ c.in-Ok.ensures.1)
    c.in_ok-source.ensures.built

pub returns-in-Ok-clause-assigned : goal.returns-in-Ok-clause-assigned
returns-in-Ok-clause-assigned g c = (
  _,
  _,
  c.builder.ensures.settings,
  ap (λ x. x.environment) c.builder.ensures.connector ∙ c.new-connector.ensures.environment,
  assigned_as _ _ _ _ _ _ _ _ _ (c.started.ensures.0 ∙ c.in-Ok.ensures.1)
      c.in_ok-source.ensures.assigned,
)
