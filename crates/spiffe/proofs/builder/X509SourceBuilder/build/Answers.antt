use Rattle.std.proofs.Common.{◌∙◌}
use Rattle.spf_feeder.specs.Governed.{kind_by}
use Rattle.spf_feeder.proofs.Unyielded.{built_as}
use Rattle.spiffe.proofs.builder.X509SourceBuilder.build.Goals as goal

pub returns-in-Ok-clause-built : goal.returns-in-Ok-clause-built
returns-in-Ok-clause-built g c =
    let new = c.started.ensures in
    built_as (kind_by g.P.SvidPicker.picks) _ _ _ _ _ _ new.1 (new.0 ∙ c.in-Ok.ensures.1)
    c.in_ok-source.ensures.built
