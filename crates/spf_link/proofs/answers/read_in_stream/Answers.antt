use Rattle.std.proofs.lemmas.Result.{err_from_is_err_and}
use Rattle.spf_link.specs.Answers.{SaysInStream, streams}
use Rattle.spf_link.proofs.AnswerLemmas.{unread, ended, nothing, stopped, answered}
use Rattle.spf_link.proofs.Covers.{stream_covers}
use Rattle.spf_link.proofs.answers.read_in_stream.Goals as goal

pub returns-in-None-clause-bytes : goal.returns-in-None-clause-bytes
returns-in-None-clause-bytes g c =
    let read = rw c.in-None.is at c.in_ok-kind.ensures.bytes in
    ended (SaysInStream c.args.asked) streams _ _ read.0 read.1

pub returns-in-Ok-Some-clause-bytes : goal.returns-in-Ok-Some-clause-bytes
returns-in-Ok-Some-clause-bytes g c =
    let read = rw c.in-Some.is at c.in_ok-kind.ensures.bytes in
    answered (SaysInStream c.args.asked) streams _ _ _ _ _ _ read c.as_slice.ensures
    (rw c.in-Ok-Some.field-0-is at c.in-Ok-Some.ensures)

pub returns-in-Ok-None-clause-bytes : goal.returns-in-Ok-None-clause-bytes
returns-in-Ok-None-clause-bytes g c =
    let read = rw c.in-Some.is at c.in_ok-kind.ensures.bytes in
    nothing (SaysInStream c.args.asked) streams _ _ _ _ _ read c.as_slice.ensures
    (rw c.in-Ok-None.field-0-is at c.in-Ok-None.ensures)

pub returns-in_err-kind-clause-bytes : goal.returns-in_err-kind-clause-bytes
returns-in_err-kind-clause-bytes g c =
    let p = err_from_is_err_and c.from_residual.result c.from_residual.ensures.1 in
    rw (p.1, p.2)
    (unread (SaysInStream c.args.asked) streams _ _ c.in_err-kind.field-0.0
    (stream_covers c.args.asked) c.in_err-kind.ensures.bytes)

pub returns-in-Err-clause-bytes : goal.returns-in-Err-clause-bytes
returns-in-Err-clause-bytes g c =
    let read = rw c.in-Some.is at c.in_ok-kind.ensures.bytes in
    stopped (SaysInStream c.args.asked) streams _ _ _ _ read
