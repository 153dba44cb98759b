use Rattle.spf_feed.proofs.Received.{received_is}
use Rattle.spf_feeder.proofs.YieldLemmas.{if_ok}
use Rattle.spf_feeder.proofs.received.context_of.Goals as goal

pub returns : goal.returns
returns c =
    if_ok c.received.result _
    (λ x is. received_is c.args.response.now c.context_from.result x c.received.result is
    c.context_from.ensures c.received.ensures)
