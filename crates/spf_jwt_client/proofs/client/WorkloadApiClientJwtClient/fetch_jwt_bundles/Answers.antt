use Rattle.std.proofs.lemmas.Result.{err_from_is_err_and}
use Rattle.spf_jwt_client.proofs.Plain.{refused_fetch}
use Rattle.spf_jwt_client.proofs.client.WorkloadApiClientJwtClient.fetch_jwt_bundles.Goals as goal

pub returns-in_err-response-clause-fetches : goal.returns-in_err-response-clause-fetches
returns-in_err-response-clause-fetches g c =
    let p = err_from_is_err_and c.from_residual.result c.from_residual.ensures.1 in
    let e = c.in_err-response.field-0.0 in
    rw (p.1, p.2)
    (refused_fetch g.L.Link _ _ _ _ _ _ _ e c.in_err-response.ensures.asks)
