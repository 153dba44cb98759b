use Rattle.spf_feed.specs.Lines.{shown_at}
use Rattle.spf_feed.proofs.LineLemmas.{hex_list_made}
use Rattle.spf_feed.proofs.line.push_indices.Goals as goal

pub returns-clause-text : goal.returns-clause-text
returns-clause-text g c =
    let first = c.in-Some.first.now in
    let others = c.in-Some.others.now in
    rw c.in-Some.ensures.cases.0
    (hex_list_made (shown_at g.T.Octets.shown c.args.items.now) first others _
    c.push_at.new.line _ c.in_ok-push_at.ensures.text c.in_ok-push_other_indices.ensures.text)
