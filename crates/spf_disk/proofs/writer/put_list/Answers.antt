use Rattle.std.proofs.Common.{List, length, arith, rules, subst}
use Rattle.std.proofs.lemmas.List.{take_all}
use Rattle.std.specs.List.{All}
use Rattle.spf_disk.specs.Format.{number_text, list_text}
use Rattle.spf_api.proofs.Laid.{laid_more, laid_octets}
use Rattle.spf_disk.proofs.writer.put_list.Goals as goal

pub loop-member-preserved : goal.loop-member-preserved
loop-member-preserved g c =
    laid_more g.M.PutMember.text g.M.PutMember.fits c.put_number.new.out.items
    c.loop-member.out.items c.put.new.out.items c.args.members.now c.loop-member.member-index
    c.member-item.result c.loop-member.invariant c.loop-member-test.true c.member-item.is
    c.in_ok-put.ensures.octets c.in_ok-put.ensures.fits

pub returns-clause-fits : goal.returns-clause-fits
returns-clause-fits g c = record {
  short = search rules;
  each = subst (λ (l : List _). All g.M.PutMember.fits l)
      (take_all c.loop-member.member-index c.args.members.now (omega arith))
      c.loop-member.invariant.fits;
}

pub returns-clause-octets : goal.returns-clause-octets
unfolding list_text
returns-clause-octets g c =
    laid_octets g.M.PutMember.text g.M.PutMember.fits c.args.out.now.items
    (number_text (length c.args.members.now)) c.put_number.new.out.items c.loop-member.out.items
    c.args.members.now c.loop-member.member-index c.loop-member.invariant (omega arith)
    c.in_ok-put_number.ensures
