use Rattle.std.proofs.Common.{◌∙◌}
use Rattle.spf_proto.proofs.Entries.{bundle_is_read}
use Rattle.spf_proto.proofs.entry.read_bundle.Goals as goal

pub returns : goal.returns
returns c = c.read_onto.ensures ∙ bundle_is_read c.args.bytes.now
