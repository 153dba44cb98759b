use Rattle.std.proofs.Common.{refl}
use Rattle.spf_live.proofs.Failing.{fails_outside}
use Rattle.spf_live.proofs.Followed.{prints_none}
use Rattle.spf_live.proofs.follow.print_source.Goals as goal

pub returns-in-Ok-clause-cause : goal.returns-in-Ok-clause-cause
returns-in-Ok-clause-cause g c =
    fails_outside _ _ c.print_updates-printed.result.1 c.print_updates-printed.ensures.cause

pub returns-in-Err-clause-prints : goal.returns-in-Err-clause-prints
returns-in-Err-clause-prints g c =
    let seen = c.updated.new.giver.seen in
    (seen, prints_none seen c.args.lines _ _ _ _ c.error_of.result refl)
