use Rattle.std.proofs.Common.{take}
use Rattle.spf_api.proofs.Laid.{Laid}
use Rattle.spf_proto.proofs.payload.put_list.Given as goal

abbrev pub invariant-loop-view : goal.invariant-loop-view
invariant-loop-view g l =
    Laid (λ v. g.V.PutView.text (g.V.PutView.entry_of v))
    (λ v. g.V.PutView.fits (g.V.PutView.entry_of v))
    l.initial.out.items l.out.items (take l.view-index l.views)
