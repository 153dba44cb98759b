use Rattle.std.proofs.Common.{rules}
use Rattle.spf_http2.specs.Frames.{header_text}
use Rattle.spf_http2.proofs.header.header_octets.Goals as goal

pub returns : goal.returns
unfolding header_text
returns c = rw (c.to_be_bytes.ensures, c.to_be_bytes-2.ensures) (search rules)
