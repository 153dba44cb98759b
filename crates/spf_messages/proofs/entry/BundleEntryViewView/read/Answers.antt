use Rattle.std.proofs.Common.{◌∙◌}
use Rattle.spf_messages.proofs.Entries.{bundle_is_read}
use Rattle.spf_messages.proofs.entry.BundleEntryViewView.read.Goals as goal

pub returns : goal.returns
returns c = c.read_onto.ensures ∙ bundle_is_read c.args.octets.now
