use Rattle.spf_feed.proofs.LineLemmas.{hex_list_made}
use Rattle.spf_feed.proofs.line.push_list.Goals as goal

pub returns-clause-text : goal.returns-clause-text
returns-clause-text g c =
    let first = c.in-Some.first.now in
    let others = c.in-Some.others.now in
    rw c.in-Some.ensures.cases.0
    (hex_list_made g.T.Octets.shown first others _ c.push_hex.new.self _
    (rw c.octets.ensures at c.in_ok-push_hex.ensures.text) c.in_ok-push_others.ensures.text)
