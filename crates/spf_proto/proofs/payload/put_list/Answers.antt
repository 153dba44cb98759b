use Rattle.std.proofs.Common.{arith}
use Rattle.spf_api.proofs.Laid.{laid_more}
use Rattle.spf_proto.proofs.PayloadLemmas.{views_fit, views_laid}
use Rattle.spf_proto.proofs.payload.put_list.Goals as goal

pub loop-view-preserved : goal.loop-view-preserved
loop-view-preserved g c =
    laid_more (λ v. g.V.PutView.text (g.V.PutView.entry_of v))
    (λ v. g.V.PutView.fits (g.V.PutView.entry_of v)) c.put_number.new.out.items
    c.loop-view.out.items c.put.new.out.items c.args.views.now c.loop-view.view-index
    c.view-item.result c.loop-view.invariant c.loop-view-test.true c.view-item.is
    c.in_ok-put.ensures.octets c.in_ok-put.ensures.fits

pub returns-clause-fits : goal.returns-clause-fits
returns-clause-fits g c =
    views_fit g.V.PutView.entry_of g.V.PutView.text g.V.PutView.fits c.put_number.new.out.items
    c.loop-view.out.items c.args.views.now c.loop-view.view-index c.loop-view.invariant
    (omega arith) c.in_ok-put_number.ensures.short

pub returns-clause-octets : goal.returns-clause-octets
returns-clause-octets g c =
    views_laid g.V.PutView.entry_of g.V.PutView.text g.V.PutView.fits c.args.out.now.items
    c.put_number.new.out.items c.loop-view.out.items c.args.views.now c.loop-view.view-index
    c.loop-view.invariant (omega arith) c.in_ok-put_number.ensures.octets
