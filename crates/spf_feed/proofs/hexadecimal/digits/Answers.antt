use Rattle.std.proofs.Common.{refl, arith}
use Rattle.spf_feed.proofs.Digits.{right_at, right_below}
use Rattle.spf_feed.proofs.hexadecimal.digits.Goals as goal

pub returns-clause-first : goal.returns-clause-first
unfolding right_below
returns-clause-first c = (right_at 256 refl c.args.octet (omega arith)).0

pub returns-clause-second : goal.returns-clause-second
unfolding right_below
returns-clause-second c = (right_at 256 refl c.args.octet (omega arith)).1
