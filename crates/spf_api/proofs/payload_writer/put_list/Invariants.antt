use Rattle.std.proofs.Common.{take}
use Rattle.spf_api.proofs.Laid.{Laid}
use Rattle.spf_api.proofs.payload_writer.put_list.Given as goal

abbrev pub invariant-loop-entry : goal.invariant-loop-entry
invariant-loop-entry g l =
    Laid g.E.PutEntry.text g.E.PutEntry.fits l.initial.out.items l.out.items
    (take l.entry-index l.entries)
