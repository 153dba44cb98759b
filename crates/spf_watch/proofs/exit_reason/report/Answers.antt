use Rattle.std.proofs.Common.{◌∙◌, sym, ap, subst, codes}
use Rattle.spf_program.specs.Reports.{IsReported, failure_line}
use Rattle.spf_program.specs.Streams.{side}
use Rattle.spf_watch.proofs.exit_reason.report.Goals as goal

pub returns-clause-line : goal.returns-clause-line
returns-clause-line g c =
    subst (IsReported
    (side (g.E.Sink.held c.args.errors.now) (g.E.Sink.failures c.args.errors.now))
    (side (g.E.Sink.held c.report.new.errors) (g.E.Sink.failures c.report.new.errors)))
    (ap (failure_line (codes "spiffe_watch: ") c.message_of.result.now) c.frame_of.ensures
    ∙ sym c.message_of.ensures) c.report.ensures
