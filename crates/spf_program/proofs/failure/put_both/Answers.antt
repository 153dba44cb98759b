use Rattle.std.proofs.lemmas.Result.{err_from_is_err_and}
use Rattle.spf_program.proofs.Pieces.{first_failed, then_second}
use Rattle.spf_program.proofs.failure.put_both.Goals as goal

pub returns-in_err-put-clause-bytes : goal.returns-in_err-put-clause-bytes
returns-in_err-put-clause-bytes g c =
    let p = err_from_is_err_and c.from_residual.result c.from_residual.ensures.1 in
    first_failed _ _ c.from_residual.result p.0 c.args.first.now c.args.second.now p.1
    c.in_err-put.ensures.bytes

pub returns-clause-bytes : goal.returns-clause-bytes
returns-clause-bytes g c =
    then_second _ _ _ c.put-2.result c.args.first.now c.args.second.now c.in_ok-put.ensures.bytes
    c.put-2.ensures.bytes
