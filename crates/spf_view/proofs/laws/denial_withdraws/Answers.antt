use Rattle.std.proofs.Common.{◌∙◌}
use Rattle.spf_view.specs.Views.{revision_after}
use Rattle.spf_view.proofs.RevisionLemmas.{raised_below}
use Rattle.spf_view.proofs.AfterLemmas.{view_denied, revision_denied}
use Rattle.spf_view.proofs.laws.denial_withdraws.Goals as goal

pub returns : goal.returns
returns g c =
    λ s events e m d w h. (
      view_denied s events e m d w h,
      λ below. revision_denied s events e m d w h ∙ raised_below (revision_after s events) below,
    )
