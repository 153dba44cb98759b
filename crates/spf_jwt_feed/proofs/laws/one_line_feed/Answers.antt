use Rattle.spf_jwt_feed.proofs.PlainLines.{line_is_line}
use Rattle.spf_jwt_feed.proofs.laws.one_line_feed.Goals as goal

pub returns : goal.returns
returns c = line_is_line
