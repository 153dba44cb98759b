use Rattle.std.proofs.Common.{refl, arith}
use Rattle.spf_der.specs.declared.time.TheConstants.{ONES}
use Rattle.spf_der.proofs.Digits.{digit_of, right_below, right_at, digit_bound}
use Rattle.spf_der.proofs.time.ones.Goals as goal

pub returns-clause-exact : goal.returns-clause-exact
unfolding right_below
returns-clause-exact c = right_at digit_of ONES 256 refl c.args.octet (omega arith)

pub returns-clause-bound : goal.returns-clause-bound
unfolding right_below
returns-clause-bound c =
    rw (right_at digit_of ONES 256 refl c.args.octet (omega arith)) (digit_bound c.args.octet)
