use Rattle.std.proofs.Common.{◌∙◌}
use Rattle.spf_jwt_source.specs.Governed.{kind_of}
use Rattle.spf_feeder.proofs.Unyielded.{built_as}
use Rattle.spf_jwt_source.proofs.builder.JwtSourceBuilder.build.Goals as goal

pub returns-in-Ok-clause-built : goal.returns-in-Ok-clause-built
returns-in-Ok-clause-built g c =
    let new = c.started.ensures in
    built_as kind_of _ _ _ _ _ _ new.1 (new.0 ∙ c.in-Ok.ensures.1)
    c.in_ok-source.ensures.built
