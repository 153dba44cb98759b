use Rattle.spf_feed.proofs.ShownLemmas.{crls_made}
use Rattle.spf_feed.proofs.line.push_crls.Goals as goal

pub returns-clause-text : goal.returns-clause-text
returns-clause-text c =
    crls_made c.args.crls.now c.args.order.now c.args.line.now
    c.extend.new.self c.push_indices.new.line c.is_empty.result
    c.is_empty.ensures c.if-is_empty.false c.requires
    c.in_ok-extend.ensures.text c.in_ok-push_indices.ensures.text
