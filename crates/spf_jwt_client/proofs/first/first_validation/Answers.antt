use Rattle.std.proofs.lemmas.Result.{err_from_is_err_and}
use Rattle.spf_jwt_client.proofs.Unsent.{unsent}
use Rattle.spf_jwt_client.proofs.first.first_validation.Goals as goal

pub returns-in_err-request-clause-asks : goal.returns-in_err-request-clause-asks
returns-in_err-request-clause-asks g c =
    let p = err_from_is_err_and c.from_residual.result c.from_residual.ensures.1 in
    rw (p.1, p.2) (unsent g.L.Link _ _ c.args.client.now.link)
