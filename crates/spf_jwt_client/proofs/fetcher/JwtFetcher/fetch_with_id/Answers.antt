use Rattle.std.proofs.Common.{sym, ◌∙◌}
use Rattle.spf_jwt_client.proofs.Caused.{fetch_caused}
use Rattle.spf_jwt_client.proofs.Fetched.{fetched_at_once, fetched_again}
use Rattle.spf_jwt_client.proofs.fetcher.JwtFetcher.fetch_with_id.Goals as goal

pub returns-in-Some-clause-fetches : goal.returns-in-Some-clause-fetches
returns-in-Some-clause-fetches g c =
    fetched_at_once g.C.Connector g.C.Link.Link _ _ _ c.ask.result c.in-Some.fetched c.ask.ensures
    (sym c.settled.ensures ∙ c.in-Some.is)

pub returns-in-Some-clause-cause : goal.returns-in-Some-clause-cause
returns-in-Some-clause-cause g c =
    fetch_caused g.C.Connector g.C.Link.Link _ _ _ c.in-Some.fetched
    (fetched_at_once g.C.Connector g.C.Link.Link _ _ _ c.ask.result c.in-Some.fetched
    c.ask.ensures (sym c.settled.ensures ∙ c.in-Some.is))

pub returns-in-None-clause-fetches : goal.returns-in-None-clause-fetches
returns-in-None-clause-fetches g c =
    fetched_again g.C.Connector g.C.Link.Link _ _ _ _ c.ask.result c.ask-in-None.result
    c.result_of.result c.ask.ensures (sym c.settled.ensures ∙ c.in-None.is) c.ask-in-None.ensures
    c.result_of.ensures

pub returns-in-None-clause-cause : goal.returns-in-None-clause-cause
returns-in-None-clause-cause g c =
    fetch_caused g.C.Connector g.C.Link.Link _ _ _ c.result_of.result
    (fetched_again g.C.Connector g.C.Link.Link _ _ _ _ c.ask.result c.ask-in-None.result
    c.result_of.result c.ask.ensures (sym c.settled.ensures ∙ c.in-None.is) c.ask-in-None.ensures
    c.result_of.ensures)
