use Rattle.spf_helper.proofs.WatchLemmas.{reported_ok, reported_err}
use Rattle.spf_helper.proofs.report.report.Goals as goal

pub returns-in-Ok-clause-line : goal.returns-in-Ok-clause-line
returns-in-Ok-clause-line g c = reported_ok _ c.args.end.now _ c.in-Ok.is

pub returns-in-Err-clause-line : goal.returns-in-Err-clause-line
returns-in-Err-clause-line g c =
    reported_err _ _ c.args.end.now _ _ _ c.in-Err.is c.message_of.ensures c.number_of.ensures
    c.report.ensures
