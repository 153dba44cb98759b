use Rattle.std.proofs.Common.{refl}
use Rattle.std.proofs.lemmas.Str.{IsUtf8-from_ascii}
use Rattle.spf_der.proofs.NameWalk.{all_ascii}
use Rattle.spf_der.proofs.extensions.ascii.Goals as goal

pub from_utf8_unchecked-requires : goal.from_utf8_unchecked-requires
from_utf8_unchecked-requires c = IsUtf8-from_ascii c.args.octets.now c.if-is_ascii.ensures.cases

pub returns-then-is_ascii : goal.returns-then-is_ascii
returns-then-is_ascii c =
    rw (all_ascii c.args.octets.now c.if-is_ascii.ensures.cases, c.from_utf8_unchecked.ensures) refl
