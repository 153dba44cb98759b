use Rattle.std.proofs.Common.{◌∙◌, ◌++◌, ℕ, List, ap}
use Rattle.spf_disk.specs.Format.{entry_at, entry_text}
use Rattle.spf_disk.proofs.Again.{entry_again}
use Rattle.spf_disk.proofs.writer.write_entry.Goals as goal

pub returns-clause-again : goal.returns-clause-again
returns-clause-again c =
    ap entry_at (c.in_ok-put_entry.ensures.octets
    ∙ ap (λ (l : List ℕ). l ++ entry_text c.args.entry.now) c.new-out.ensures.items)
    ∙ entry_again c.args.entry.now c.in_ok-put_entry.ensures.fits
