use Rattle.std.proofs.Common.{◌∙◌}
use Rattle.spf_proto.proofs.Entries.{svid_is_read}
use Rattle.spf_proto.proofs.entry.read_svid.Goals as goal

pub returns : goal.returns
returns c = c.read_onto.ensures ∙ svid_is_read c.args.bytes.now
