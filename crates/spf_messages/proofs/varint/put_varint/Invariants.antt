use Rattle.spf_messages.proofs.VarintWritten.{Going}
use Rattle.spf_messages.proofs.varint.put_varint.Given as goal

abbrev pub invariant-octets : goal.invariant-octets
invariant-octets l = Going l.initial.out.items l.out.items l.fn.number l.left

abbrev pub decreases-octets : goal.decreases-octets
decreases-octets l = l.left
