use Rattle.std.proofs.Common.{◌≡◌, length}
use Rattle.spf_id.specs.Rule.{holds_colon_slash}
use Rattle.spf_id.proofs.trust_domain.is_read_as_id.Given as goal

abbrev pub invariant-loop-after : goal.invariant-loop-after
invariant-loop-after l = holds_colon_slash l.rest ≡ holds_colon_slash l.octets

abbrev pub decreases-loop-after : goal.decreases-loop-after
decreases-loop-after l = length l.rest
