use Rattle.std.proofs.Common.{◌∙◌}
use Rattle.spf_view.specs.Views.{revision_after}
use Rattle.spf_view.proofs.RevisionLemmas.{raised_below}
use Rattle.spf_view.proofs.AfterLemmas.{accepted_again, view_accepted, revision_again}
use Rattle.spf_view.proofs.laws.same_update_restores.Goals as goal

pub returns : goal.returns
returns g c = λ s before events e m d h w.
    let again = accepted_again s before events e m d h w in (
      view_accepted s events e m again,
      λ below. revision_again s events e m d w again ∙ raised_below (revision_after s events) below,
    )
