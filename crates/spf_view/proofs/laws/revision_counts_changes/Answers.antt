use Rattle.std.proofs.Common.{◌∙◌, ap, cond}
use Rattle.spf_view.specs.Views.{revision_after}
use Rattle.spf_view.proofs.RevisionLemmas.{raised_below}
use Rattle.spf_view.proofs.AfterLemmas.{revision_accepted}
use Rattle.spf_view.proofs.laws.revision_counts_changes.Goals as goal

pub returns : goal.returns
returns g c = λ s events e m n w h below.
    revision_accepted s events e m n w h
    ∙ ap (cond (s.is_same m n) (revision_after s events))
    (raised_below (revision_after s events) below)
