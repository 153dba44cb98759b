use Rattle.std.proofs.lemmas.Result.{err_from_is_err_and}
use Rattle.spf_link.specs.Answers.{SaysAtStart, may_start}
use Rattle.spf_link.proofs.AnswerLemmas.{unread, ended, nothing, stopped, answered}
use Rattle.spf_link.proofs.Covers.{start_covers}
use Rattle.spf_link.proofs.answers.read_at_start.Goals as goal

pub returns-in-None-clause-bytes : goal.returns-in-None-clause-bytes
returns-in-None-clause-bytes g c =
    let read = rw c.in-None.is at c.in_ok-kind.ensures.bytes in
    ended (SaysAtStart c.args.again) (may_start c.args.again) _ _ read.0 read.1

pub returns-in-Ok-Some-clause-bytes : goal.returns-in-Ok-Some-clause-bytes
returns-in-Ok-Some-clause-bytes g c =
    let read = rw c.in-Some.is at c.in_ok-kind.ensures.bytes in
    answered (SaysAtStart c.args.again) (may_start c.args.again) _ _ _ _ _ _ read
    c.as_slice.ensures (rw c.in-Ok-Some.field-0-is at c.in-Ok-Some.ensures)

pub returns-in-Ok-None-clause-bytes : goal.returns-in-Ok-None-clause-bytes
returns-in-Ok-None-clause-bytes g c =
    let read = rw c.in-Some.is at c.in_ok-kind.ensures.bytes in
    nothing (SaysAtStart c.args.again) (may_start c.args.again) _ _ _ _ _ read
    c.as_slice.ensures (rw c.in-Ok-None.field-0-is at c.in-Ok-None.ensures)

pub returns-in_err-kind-clause-bytes : goal.returns-in_err-kind-clause-bytes
returns-in_err-kind-clause-bytes g c =
    let p = err_from_is_err_and c.from_residual.result c.from_residual.ensures.1 in
    rw (p.1, p.2)
    (unread (SaysAtStart c.args.again) (may_start c.args.again) _ _ c.in_err-kind.field-0.0
    (start_covers c.args.again) c.in_err-kind.ensures.bytes)

pub returns-in-Err-clause-bytes : goal.returns-in-Err-clause-bytes
returns-in-Err-clause-bytes g c =
    let read = rw c.in-Some.is at c.in_ok-kind.ensures.bytes in
    stopped (SaysAtStart c.args.again) (may_start c.args.again) _ _ _ _ read
