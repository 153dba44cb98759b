use Rattle.std.proofs.Common.{◌++◌, List, ℕ, subst}
use Rattle.std.proofs.lemmas.Result.{err_from_is_err_and}
use Rattle.spf_io.specs.Outside.{PutAppends}
use Rattle.spf_program.specs.Reports.{number_end}
use Rattle.spf_program.proofs.Pieces.{first_failed, then_second}
use Rattle.spf_program.proofs.failure.put_message.Goals as goal

pub returns-in_err-put-clause-bytes : goal.returns-in_err-put-clause-bytes
returns-in_err-put-clause-bytes g c =
    let p = err_from_is_err_and c.from_residual.result c.from_residual.ensures.1 in
    subst (λ (l : List ℕ).
    PutAppends (g.E.Sink.held c.args.errors.now) (g.E.Sink.held c.put.new.self)
    c.from_residual.result (l ++ number_end c.args.number)) c.as_bytes.ensures.value
    (first_failed _ _ c.from_residual.result p.0 c.as_bytes.result.now
    (number_end c.args.number) p.1 c.in_err-put.ensures.bytes)

pub returns-clause-bytes : goal.returns-clause-bytes
returns-clause-bytes g c =
    subst (λ (l : List ℕ).
    PutAppends (g.E.Sink.held c.args.errors.now) (g.E.Sink.held c.put_number.new.errors)
    c.put_number.result (l ++ number_end c.args.number)) c.as_bytes.ensures.value
    (then_second _ _ _ c.put_number.result c.as_bytes.result.now (number_end c.args.number)
    c.in_ok-put.ensures.bytes c.put_number.ensures.bytes)
