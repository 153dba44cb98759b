-- The values that may still stand in one another, eight calls for each.
use Rattle.std.proofs.Common.{◌+◌, ◌*◌, [], length, map}
use denote.Shadow.{shadow}
use denote.Text.{Utf8}
use Rattle.spf_api.specs.declared.response.ClaimValue.{Unset}
use Rattle.spf_messages.specs.Claims.{claim_with, claims_with, said_by, value_of}
use Rattle.spf_messages.specs.Folded.{entries_with, keyed_with, message_from, said_and, value_put}
use Rattle.spf_messages.specs.Members.{claim_of}
use Rattle.spf_messages.specs.Message.{entries_in}
use Rattle.spf_messages.proofs.Fields.{Left}
use Rattle.spf_messages.proofs.claims.+claims.Given as goal

abbrev pub decreases-read_value : goal.decreases-read_value
decreases-read_value l = 8 * l.depth

abbrev pub decreases-value_after : goal.decreases-value_after
decreases-value_after l = 8 * l.depth + 1

abbrev pub decreases-add_item : goal.decreases-add_item
decreases-add_item l = 8 * l.depth + 1

abbrev pub decreases-read_items : goal.decreases-read_items
decreases-read_items l = 8 * l.depth + 2

abbrev pub decreases-items_of : goal.decreases-items_of
decreases-items_of l = 8 * l.depth + 3

abbrev pub decreases-read_claim : goal.decreases-read_claim
decreases-read_claim l = 8 * l.depth + 2

abbrev pub decreases-add_claim : goal.decreases-add_claim
decreases-add_claim l = 8 * l.depth + 3

abbrev pub decreases-read_claims : goal.decreases-read_claims
decreases-read_claims l = 8 * l.depth + 4

abbrev pub decreases-fields_of : goal.decreases-fields_of
decreases-fields_of l = 8 * l.depth + 5

abbrev pub decreases-said_after : goal.decreases-said_after
decreases-said_after l = 8 * l.depth + 6

abbrev pub invariant-read_value-fields : goal.invariant-read_value-fields
invariant-read_value-fields l =
    Left (said_and (said_by (value_of l.inner))) l.value l.rest (value_of l.depth l.fn.bytes)

abbrev pub decreases-read_value-fields : goal.decreases-read_value-fields
decreases-read_value-fields l = length l.rest

abbrev pub invariant-read_items-fields : goal.invariant-read_items-fields
invariant-read_items-fields l =
    Left (entries_with (value_of l.depth) 1 1) l.items.items l.rest
    (entries_in (value_of l.depth) 1 1 l.fn.bytes)

abbrev pub decreases-read_items-fields : goal.decreases-read_items-fields
decreases-read_items-fields l = length l.rest

abbrev pub invariant-read_claim-fields : goal.invariant-read_claim-fields
invariant-read_claim-fields l =
    shadow (Utf8 l.name)
    × Left (keyed_with (value_put (value_of l.depth))) (l.name, l.value) l.rest
    (message_from (keyed_with (value_put (value_of l.depth))) ([], Unset) l.fn.bytes)

abbrev pub decreases-read_claim-fields : goal.decreases-read_claim-fields
decreases-read_claim-fields l = length l.rest

abbrev pub invariant-read_claims-fields : goal.invariant-read_claims-fields
invariant-read_claims-fields l =
    Left (entries_with (claim_with (value_of l.depth)) 1 1) (map claim_of l.claims.items) l.rest
    (claims_with (value_of l.depth) l.fn.bytes)

abbrev pub decreases-read_claims-fields : goal.decreases-read_claims-fields
decreases-read_claims-fields l = length l.rest
