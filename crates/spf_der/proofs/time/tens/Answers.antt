use Rattle.std.proofs.Common.{refl, arith}
use Rattle.spf_der.specs.declared.time.TheConstants.{TENS}
use Rattle.spf_der.proofs.Digits.{tens_of, right_below, right_at, tens_bound}
use Rattle.spf_der.proofs.time.tens.Goals as goal

pub returns-clause-exact : goal.returns-clause-exact
unfolding right_below
returns-clause-exact c = right_at tens_of TENS 256 refl c.args.octet (omega arith)

pub returns-clause-bound : goal.returns-clause-bound
unfolding right_below
returns-clause-bound c =
    rw (right_at tens_of TENS 256 refl c.args.octet (omega arith)) (tens_bound c.args.octet)
