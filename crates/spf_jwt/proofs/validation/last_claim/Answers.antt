use Rattle.spf_jwt.proofs.Later.{one_later}
use Rattle.spf_jwt.proofs.validation.last_claim.Goals as goal

pub loop-claim-preserved : goal.loop-claim-preserved
loop-claim-preserved c =
    one_later c.args.name.now c.args.claims.now c.loop-claim.claim-index c.claim-item.result
    _ _ _ c.loop-claim-test.true c.claim-item.is c.later-found.ensures c.loop-claim.invariant
