use Rattle.spf_view.proofs.StandsLemmas.{stands_view}
use Rattle.spf_view.proofs.laws.kept_is_replayed.Goals as goal

pub returns : goal.returns
returns g c =
    λ eq o steps kept showing stands. (
      stands.revision_is,
      stands.held_is,
      stands.reason_is,
      stands_view eq o steps kept showing stands,
    )
