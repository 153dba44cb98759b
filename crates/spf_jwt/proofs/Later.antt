-- The last claim of a name, as a loop finds it.
use Rattle.std.proofs.Common.{◌≡◌, ℕ, ◌+◌, ◌<◌, List, ◌∷◌, drop, length, get_or, Option, Some}
use Rattle.std.proofs.Common.{None, refl, sym, ap, ◌∙◌}
use Rattle.std.proofs.lemmas.List.{drop_more}
use Rattle.spf_api.specs.declared.response.Claim.{Claim}
use Rattle.spf_api.specs.declared.response.ClaimValue.{ClaimValue}
use Rattle.spf_jwt.specs.Validation.{or_else, named, last_claim}

regroup : (a b c : Option ClaimValue) → or_else (or_else a b) c ≡ or_else a (or_else b c)
regroup (Some v) b c = refl
regroup None b c = refl

-- one more claim was looked at
pub one_later : (name : List ℕ) (claims : List Claim) (i : ℕ) (claim : Claim)
    (found next total : Option ClaimValue)
    → i < length claims → claim ≡ get_or claims i claim
    → next ≡ or_else (named name claim) found
    → or_else (last_claim name (drop i claims)) found ≡ total
    → or_else (last_claim name (drop (i + 1) claims)) next ≡ total
one_later name claims i claim found next total lt is picked so_far =
    let cut : drop i claims ≡ claim ∷ drop (i + 1) claims =
    drop_more claims i claim lt ∙ ap (λ (c : Claim). c ∷ drop (i + 1) claims) (sym is) in
    ap (or_else (last_claim name (drop (i + 1) claims))) picked
    ∙ sym (regroup (last_claim name (drop (i + 1) claims)) (named name claim) found)
    ∙ sym (ap (λ (cs : List Claim). or_else (last_claim name cs) found) cut) ∙ so_far
