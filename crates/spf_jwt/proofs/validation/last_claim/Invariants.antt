use Rattle.std.proofs.Common.{◌≡◌, drop}
use Rattle.std.specs.Option.{option_map}
use Rattle.spf_jwt.specs.Validation.{or_else, last_claim}
use Rattle.spf_jwt.proofs.validation.last_claim.Given as goal

abbrev pub invariant-loop-claim : goal.invariant-loop-claim
invariant-loop-claim l =
    or_else (last_claim l.name (drop l.claim-index l.claims)) (option_map (λ v. v.now) l.found)
    ≡ last_claim l.name l.claims
