use Rattle.spf_client.proofs.Never.{context_never, svids_never, first_svid_never, bundle_set_never}
use Rattle.spf_client.proofs.Refusals.{refusals_caused}
use Rattle.spf_client.proofs.laws.refusals_have_causes.Goals as goal

pub returns-clause-contexts : goal.returns-clause-contexts
returns-clause-contexts g c = refusals_caused g.L.Link _ _ _ context_never

pub returns-clause-all_svids : goal.returns-clause-all_svids
returns-clause-all_svids g c = refusals_caused g.L.Link _ _ _ svids_never

pub returns-clause-svids : goal.returns-clause-svids
returns-clause-svids g c = refusals_caused g.L.Link _ _ _ first_svid_never

pub returns-clause-bundles : goal.returns-clause-bundles
returns-clause-bundles g c = refusals_caused g.L.Link _ _ _ bundle_set_never
