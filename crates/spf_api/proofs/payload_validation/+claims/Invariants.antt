-- The values that may still stand in one another, four calls for each.
use Rattle.std.proofs.Common.{◌+◌, ◌-◌, ◌*◌}
use Rattle.spf_api.specs.Reading.{counted}
use Rattle.spf_api.specs.Claims.{claim_at, claim_value_at}
use Rattle.spf_api.proofs.Counted.{Goes}
use Rattle.spf_api.proofs.payload_validation.+claims.Given as goal

abbrev pub decreases-claim_value : goal.decreases-claim_value
decreases-claim_value l = 4 * l.depth

abbrev pub decreases-claim : goal.decreases-claim
decreases-claim l = 4 * l.depth + 1

abbrev pub decreases-claim_values : goal.decreases-claim_values
decreases-claim_values l = 4 * l.depth + 1

abbrev pub decreases-claims : goal.decreases-claims
decreases-claims l = 4 * l.depth + 2

abbrev pub decreases-claim_contents : goal.decreases-claim_contents
decreases-claim_contents l = 4 * l.depth + 3

abbrev pub invariant-claim_values-values : goal.invariant-claim_values-values
invariant-claim_values-values l =
    Goes (claim_value_at l.depth) (l.count - l.counter) l.values.items l.rest
    (counted (claim_value_at l.depth) l.count l.initial.rest)

abbrev pub invariant-claims-claims : goal.invariant-claims-claims
invariant-claims-claims l =
    Goes (claim_at (claim_value_at l.depth)) (l.count - l.counter) l.claims.items l.rest
    (counted (claim_at (claim_value_at l.depth)) l.count l.initial.rest)
