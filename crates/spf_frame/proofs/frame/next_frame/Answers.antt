use Rattle.std.proofs.Common.{rules}
use Rattle.std.proofs.lemmas.Result.{err_from_is_err_and}
use Rattle.spf_frame.proofs.Whole.{no_kind, bad_kind, frame_fails}
use Rattle.spf_frame.proofs.frame.next_frame.Goals as goal

pub returns-in_err-kind-clause-bytes : goal.returns-in_err-kind-clause-bytes
returns-in_err-kind-clause-bytes g c =
    let p = err_from_is_err_and c.from_residual.result c.from_residual.ensures.1 in
    rw (p.1, p.2)
    (no_kind (g.K.Kinds.allows c.args.kinds.now) c.args.allowed _ _ c.in_err-kind.field-0.0
    c.in_err-kind.ensures.bytes)

pub returns-then-not-allow-clause-bytes : goal.returns-then-not-allow-clause-bytes
returns-then-not-allow-clause-bytes g c =
    bad_kind (g.K.Kinds.allows c.args.kinds.now) c.args.allowed c.in-Some.kind _ _ (search rules)
    (search rules) (rw c.in-Some.is at c.in_ok-kind.ensures.bytes)

pub returns-in_err-read_sized-clause-bytes : goal.returns-in_err-read_sized-clause-bytes
returns-in_err-read_sized-clause-bytes g c =
    let p = err_from_is_err_and c.from_residual-in_err-read_sized.result
    c.from_residual-in_err-read_sized.ensures.1 in
    rw (p.1, p.2)
    (frame_fails (g.K.Kinds.allows c.args.kinds.now) c.args.allowed c.in-Some.kind _ _ _
    c.in_err-read_sized.field-0.0 (search rules) (search rules)
    (rw c.in-Some.is at c.in_ok-kind.ensures.bytes) c.in_err-read_sized.ensures.bytes)
