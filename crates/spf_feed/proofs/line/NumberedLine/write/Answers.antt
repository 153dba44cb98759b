use Rattle.std.proofs.Common.{◌≤◌, length, rules}
use Rattle.spf_feed.proofs.ShownLemmas.{line_written}
use Rattle.spf_feed.proofs.line.NumberedLine.write.Goals as goal

pub returns-clause-text : goal.returns-clause-text
returns-clause-text c =
    let room : 20 ≤ length c.self.inside.octets = search rules in
    line_written c.self.inside.octets c.cut.new.self c.push.new.self
    c.push_view.new.line _ _ _ _ c.args.now room c.cut.ensures
    c.in_ok-push.ensures.text
    c.standing.ensures.view c.revision.ensures c.in_ok-push_view.ensures.text
