use Rattle.std.proofs.Common.{arith}
use Rattle.spf_messages.proofs.VarintWritten.{going_first, going_more}
use Rattle.spf_messages.proofs.varint.put_varint.Goals as goal

pub octets-init : goal.octets-init
octets-init c = going_first c.args.out.now.items c.args.number (omega arith)

pub octets-preserved : goal.octets-preserved
octets-preserved c =
    going_more c.args.out.now.items c.octets.out.items c.push.new.self.items c.args.number
    c.octets.left c.octets.invariant (omega arith) c.in_ok-push.ensures.items
