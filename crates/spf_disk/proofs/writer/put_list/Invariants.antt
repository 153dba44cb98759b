use Rattle.std.proofs.Common.{take}
use Rattle.spf_api.proofs.Laid.{Laid}
use Rattle.spf_disk.proofs.writer.put_list.Given as goal

abbrev pub invariant-loop-member : goal.invariant-loop-member
invariant-loop-member g l =
    Laid g.M.PutMember.text g.M.PutMember.fits l.initial.out.items l.out.items
    (take l.member-index l.members)
