use Rattle.std.proofs.Common.{take}
use Rattle.spf_api.specs.Claims.{claim_value_text, claim_text, IsClaim, IsClaimValue}
use Rattle.spf_api.proofs.Laid.{Laid}
use Rattle.spf_api.proofs.payload_validation.+put_claims.Given as goal

abbrev pub invariant-put_claim_values-loop-value : goal.invariant-put_claim_values-loop-value
invariant-put_claim_values-loop-value l =
    Laid claim_value_text (IsClaimValue l.depth) l.initial.out.items l.out.items
    (take l.value-index l.values)

abbrev pub invariant-put_claims-loop-claim : goal.invariant-put_claims-loop-claim
invariant-put_claims-loop-claim l =
    Laid claim_text (IsClaim (IsClaimValue l.depth)) l.initial.out.items l.out.items
    (take l.claim-index l.claims)
