use Rattle.std.proofs.Common.{refl}
use Rattle.std.proofs.lemmas.Result.{err_from_is_err_and}
use Rattle.spf_feed.proofs.HandLemmas.{records_short, nothing_done}
use Rattle.spf_jwt_feed.proofs.following.take.Goals as goal

pub returns-in_err-record_all-in-Passed-clause-turn
    : goal.returns-in_err-record_all-in-Passed-clause-turn
returns-in_err-record_all-in-Passed-clause-turn g c =
    let p = err_from_is_err_and c.from_residual.result c.from_residual.ensures.1 in
    rw (c.in-Passed.is, p.1, p.2) (
      refl,
      records_short _ _ _ refl c.in_err-record_all-in-Passed.ensures,
    )

pub returns-in_err-new-in-Denied-clause-turn : goal.returns-in_err-new-in-Denied-clause-turn
returns-in_err-new-in-Denied-clause-turn g c =
    let p = err_from_is_err_and c.from_residual-in_err-new-in-Denied.result
    c.from_residual-in_err-new-in-Denied.ensures.1 in
    rw (c.in-Denied.is, p.1, p.2) (refl, nothing_done _ _ _)

pub returns-in_err-new-in-Accepted-clause-turn : goal.returns-in_err-new-in-Accepted-clause-turn
returns-in_err-new-in-Accepted-clause-turn g c =
    let p = err_from_is_err_and c.from_residual-in_err-new-in-Accepted.result
    c.from_residual-in_err-new-in-Accepted.ensures.1 in
    rw (c.in-Accepted.is, p.1, p.2) (refl, nothing_done _ _ _)
