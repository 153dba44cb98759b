use Rattle.spf_gate.proofs.FirstFeed.{first_feed}
use Rattle.spf_gate.proofs.line_reader.first_feed.Goals as goal

pub returns : goal.returns
returns c = first_feed c.args.octets.now c.memchr.result c.memchr.ensures
