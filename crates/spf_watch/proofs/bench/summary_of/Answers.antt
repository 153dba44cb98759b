use Rattle.std.proofs.Common.{sym, subst, ◌++◌, List, ℕ, Option, Some}
use Rattle.std.proofs.lemmas.Result.{IfOk-weaker}
use Rattle.spf_watch.specs.Headline.{IsSummary}
use Rattle.spf_watch.proofs.Summed.{summed_by}
use Rattle.spf_watch.proofs.bench.summary_of.Goals as goal

pub returns-in-Ok : goal.returns-in-Ok
returns-in-Ok c =
    let arguments = c.args.arguments in
    let source = c.in_ok-source.source in
    let after = c.follow_x509-followed.new in
    let left : Option (List ℕ) = Some (source.ready ++ source.later) in
    let left' : Option (List ℕ) = Some (after.source.ready ++ after.source.later) in
    let held : Option (List ℕ) = Some c.new-tally.result.held in
    let summary =
    summed_by arguments left left' held after.sink.held c.default_limits.result c.in-Ok.events
    c.revision-revision.result c.withdrawn-withdrawn.result
    c.in_ok-source.ensures.left c.new-tally.ensures.held c.default_limits.ensures
    c.in-Ok.ensures.followed c.revision-revision.ensures c.withdrawn-withdrawn.ensures in
    IfOk-weaker c.line_of.result _ _ (λ s is. subst (IsSummary arguments) (sym is) summary)
    c.line_of.ensures
