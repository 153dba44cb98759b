use Rattle.std.proofs.Common.{length, arith}
use Rattle.std.specs.Int.{w32, to_be_bytes}
use Rattle.spf_api.specs.Layout.{list_text}
use Rattle.spf_api.proofs.Laid.{laid_more, laid_list, laid_octets}
use Rattle.spf_api.proofs.payload_writer.put_list.Goals as goal

pub loop-entry-preserved : goal.loop-entry-preserved
loop-entry-preserved g c =
    laid_more g.E.PutEntry.text g.E.PutEntry.fits c.put_number.new.out.items c.loop-entry.out.items
    c.put.new.out.items c.args.entries.now c.loop-entry.entry-index c.entry-item.result
    c.loop-entry.invariant c.loop-entry-test.true c.entry-item.is c.in_ok-put.ensures.octets
    c.in_ok-put.ensures.fits

pub returns-clause-fits : goal.returns-clause-fits
returns-clause-fits g c =
    laid_list g.E.PutEntry.text g.E.PutEntry.fits c.put_number.new.out.items c.loop-entry.out.items
    c.args.entries.now c.loop-entry.entry-index c.loop-entry.invariant (omega arith)
    c.in_ok-put_number.ensures.short

pub returns-clause-octets : goal.returns-clause-octets
unfolding list_text
returns-clause-octets g c =
    laid_octets g.E.PutEntry.text g.E.PutEntry.fits c.args.out.now.items
    (to_be_bytes w32 (length c.args.entries.now)) c.put_number.new.out.items c.loop-entry.out.items
    c.args.entries.now
    c.loop-entry.entry-index c.loop-entry.invariant (omega arith) c.in_ok-put_number.ensures.octets
