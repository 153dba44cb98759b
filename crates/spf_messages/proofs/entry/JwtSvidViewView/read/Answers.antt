use Rattle.std.proofs.Common.{◌∙◌}
use Rattle.spf_messages.proofs.Entries.{jwt_svid_is_read}
use Rattle.spf_messages.proofs.entry.JwtSvidViewView.read.Goals as goal

pub returns : goal.returns
returns c = c.read_onto.ensures ∙ jwt_svid_is_read c.args.octets.now
