use Rattle.std.proofs.Common.{sym, ap}
use Rattle.spf_board.proofs.Adding.{moves}
use Rattle.spf_board.proofs.scribe.write.Goals as goal

pub compare_exchange-found-requires : goal.compare_exchange-found-requires
compare_exchange-found-requires g c =
    let h = c.requires.head in
    let offer = c.plain-offer.ensures in
    let pen = c.no_pen-pen.ensures in
    let book = ap (λ w. w.book) h in (
      ap (λ w. w.tracked) h,
      sym book,
      rw book pen.0,
      offer.0,
      rw (ap (λ w. w.key) h, pen.1, offer.1, offer.3, c.requires.plain)
          (moves g.K.Kind.legal c.args.seen.now.log _ c.args.number.now (sym c.requires.number)
          c.requires.follows),
    )
