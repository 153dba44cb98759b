use Rattle.std.proofs.Common.{◌≤◌, length, rules}
use Rattle.spf_jwt_feed.proofs.LineLemmas.{line_written}
use Rattle.spf_jwt_feed.proofs.line.NumberedLine.write.Goals as goal

pub returns : goal.returns
returns c =
    let room : 20 ≤ length c.self.inside.octets.items = search rules in
    record {
      text = line_written c.self.inside.octets.items c.truncate.new.self.items
          c.push.new.self.items c.push_view.new.line.items _ _ _ _ room c.truncate.ensures.items
          c.in_ok-push.ensures.items c.standing.ensures c.revision.ensures
          c.in_ok-push_view.ensures.text;
    }
