use Rattle.spf_live.proofs.Failing.{ends_fail, fails_somehow}
use Rattle.spf_live.proofs.Following.{followed, unyielded}
use Rattle.spf_live.proofs.on_threads.follow.Goals as goal

pub returns-clause-follows : goal.returns-clause-follows
returns-clause-follows g c =
    unyielded _ _ c.args.handle.job c.args.lines _ _ _ _ c.end_of.result
    (followed _ _ c.args.handle.job c.args.lines _ _ _ _ c.print_source-pass.result.1
    c.print_source-pass.result.0.seen c.into_record-record.new.pass.seen
    c.into_record-record.result c.is_ok-is_recorded.result c.end_of.result c.close_and_join.result
    c.print_source-pass.ensures.prints c.into_record-record.ensures.seen
    c.close_and_join.ensures c.into_record-record.ensures.record
    c.into_record-record.ensures.kept c.into_record-record.ensures.settled
    c.is_ok-is_recorded.ensures.value c.end_of.ensures)

pub returns-clause-cause : goal.returns-clause-cause
returns-clause-cause g c =
    fails_somehow _ _ c.end_of.result
    (ends_fail _ _ c.print_source-pass.result.1 c.is_ok-is_recorded.result c.end_of.result
    c.end_of.ensures c.print_source-pass.ensures.cause)
