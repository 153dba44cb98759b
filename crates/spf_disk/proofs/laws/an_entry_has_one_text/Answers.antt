use Rattle.spf_disk.proofs.Taken.{entry_taken}
use Rattle.spf_disk.proofs.laws.an_entry_has_one_text.Goals as goal

pub returns : goal.returns
returns c = entry_taken
