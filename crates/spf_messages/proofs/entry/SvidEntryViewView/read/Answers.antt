use Rattle.std.proofs.Common.{◌∙◌}
use Rattle.spf_messages.proofs.Entries.{svid_is_read}
use Rattle.spf_messages.proofs.entry.SvidEntryViewView.read.Goals as goal

pub returns : goal.returns
returns c = c.read_onto.ensures ∙ svid_is_read c.args.octets.now
