use Rattle.spf_link.proofs.Covers.{kind_read}
use Rattle.spf_link.proofs.wire_link.WireLink.read_next.Goals as goal

pub returns-in-Some-clause-kind : goal.returns-in-Some-clause-kind
returns-in-Some-clause-kind g c = rw c.in-Some.is (kind_read _ _ _ _ c.read_in_stream.ensures.bytes)
