use Rattle.spf_feed.proofs.Differences.{authority_differs, domain_differs}
use Rattle.spf_feed.proofs.laws.authority_makes_a_difference.Goals as goal

pub returns : goal.returns
returns c = record { domain = domain_differs; authority = authority_differs }
