use Rattle.std.proofs.Common.{arith}
use Rattle.spf_der.proofs.Clock.{clock_read}
use Rattle.spf_der.proofs.time.clock.Goals as goal

pub returns-then-z-ne90 : goal.returns-then-z-ne90
returns-then-z-ne90 c =
    let read = clock_read c.args.bytes.now c.in-len11.len_at_least c.in-len11.len_below c.args.year
    _ _ _ _ _ c.number-month.ensures.exact c.number-day.ensures.exact
    c.number-hour.ensures.exact c.number-minute.ensures.exact c.number-second.ensures.exact in
    grind (arith, read)

pub returns-else-z-ne90 : goal.returns-else-z-ne90
returns-else-z-ne90 c =
    let read = clock_read c.args.bytes.now c.in-len11.len_at_least c.in-len11.len_below c.args.year
    _ _ _ _ _ c.number-month.ensures.exact c.number-day.ensures.exact
    c.number-hour.ensures.exact c.number-minute.ensures.exact c.number-second.ensures.exact in
    grind (arith, read)
