use Rattle.std.proofs.Common.{sym, ap, ◌∙◌}
use Rattle.spf_view.specs.Standing.{kept_next}
use Rattle.spf_jwt.specs.Bundle.{set_eq}
use Rattle.spf_jwt_source.specs.Steps.{is_usable}
use Rattle.spf_jwt_source.proofs.UsableLemmas.{usable_next}
use Rattle.spf_jwt_source.proofs.shown.Shown.apply.Goals as goal

pub invariant_of-self : goal.invariant_of-self
invariant_of-self c =
    c.makes_usable-self-inside.ensures
    ∙ usable_next c.self.inside.snapshot c.args.step
    ∙ ap (λ step. is_usable (kept_next set_eq c.self.inside.snapshot step))
    (sym c.into_step.ensures)
    ∙ ap is_usable (sym c.apply.ensures.value)
