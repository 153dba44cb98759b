use Rattle.std.proofs.lemmas.Result.{err_from_is_err_and}
use Rattle.spf_view.proofs.FollowLemmas.{followed_early}
use Rattle.spf_feed.proofs.following.follow_x509_sharing.Goals as goal

pub returns-in_err-line-clause-followed : goal.returns-in_err-line-clause-followed
returns-in_err-line-clause-followed g c =
    let p = err_from_is_err_and c.from_residual.result c.from_residual.ensures.1 in
    rw (p.1, p.2) (followed_early _ _ _ _)
