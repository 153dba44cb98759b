use Rattle.std.proofs.Common.{refl}
use Rattle.spf_proto.proofs.WatchLemmas.{said_line, said_nothing}
use Rattle.spf_proto.proofs.report.report.Goals as goal

pub returns-in-Ok-clause-line : goal.returns-in-Ok-clause-line
returns-in-Ok-clause-line g c = said_nothing _ _ c.args.end.now _ c.in-Ok.is refl

pub returns-in-Err-clause-line : goal.returns-in-Err-clause-line
returns-in-Err-clause-line g c =
    said_line _ _ c.args.end.now _ _ _ c.in-Err.is c.message_of.ensures c.number_of.ensures
    c.report.ensures
