use Rattle.spf_client.proofs.Refusals.{refusals_caused}
use Rattle.spf_jwt_client.proofs.Never.{first_never, svids_never, hinted_never, token_never}
use Rattle.spf_jwt_client.proofs.Never.{validated_never, bundles_never}
use Rattle.spf_jwt_client.proofs.laws.jwt_refusals_have_causes.Goals as goal

pub returns-clause-svids : goal.returns-clause-svids
returns-clause-svids g c = refusals_caused g.L.Link _ _ _ first_never

pub returns-clause-all_svids : goal.returns-clause-all_svids
returns-clause-all_svids g c = refusals_caused g.L.Link _ _ _ svids_never

pub returns-clause-hinted : goal.returns-clause-hinted
returns-clause-hinted g c = λ hint. refusals_caused g.L.Link _ _ _ (hinted_never hint)

pub returns-clause-tokens : goal.returns-clause-tokens
returns-clause-tokens g c = refusals_caused g.L.Link _ _ _ token_never

pub returns-clause-validated : goal.returns-clause-validated
returns-clause-validated g c = λ token. refusals_caused g.L.Link _ _ _ (validated_never token)

pub returns-clause-bundles : goal.returns-clause-bundles
returns-clause-bundles g c = refusals_caused g.L.Link _ _ _ bundles_never
