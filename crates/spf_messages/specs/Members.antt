-- The members of messages, seen by their views.
use Rattle.std.specs.Prelude.{◌≡◌, ℕ, List, [], ◌∷◌, ◌++◌, map, true, if◌then◌else◌, Option}
use Rattle.std.specs.Option.{option_map}
use Rattle.std.specs.Global.{Vec}
use Rattle.std.specs.Borrow.{Bor}
use Rattle.std.specs.Ordering.{nat_cmp}
use Rattle.std.specs.declared.cmp.Ordering.{Ordering}
use Rattle.std.specs.Cmp.Lexicographic.{slice_cmp}
use Rattle.std.specs.BTreeSet.{BTreeSet, contains, Updates}
use Rattle.spf_api.specs.Views.{svid_entry_of, bundle_entry_of, octets_of}
use Rattle.spf_api.specs.declared.response.Claim.{Claim}
use Rattle.spf_api.specs.declared.response.ContextResponse.{ContextResponse}
use Rattle.spf_api.specs.declared.response.JwtSvidEntry.{JwtSvidEntry}
use Rattle.spf_messages.specs.declared.entry.JwtSvidView.{JwtSvidView}
use Rattle.spf_messages.specs.declared.claims.ClaimView.{ClaimView}
use Rattle.spf_messages.specs.declared.context.Members.{Members}
use Rattle.spf_messages.specs.declared.validation.Validation.{Validation}

abbrev pub shown : Members → ContextResponse
shown m = record {
  svids = map svid_entry_of m.svids.items;
  federated = map bundle_entry_of m.federated.items;
  crls = map octets_of m.crls.items;
}

abbrev pub jwt_svid_of : JwtSvidView → JwtSvidEntry
jwt_svid_of v = record { spiffe_id = v.spiffe_id.now; svid = v.svid.now; hint = v.hint.now }

abbrev pub claim_of : ClaimView → Claim
claim_of v = record { name = v.name.now; value = v.value }

-- the claims, where there are any
abbrev pub claims_shown : Option (Vec ClaimView) → Option (List Claim)
claims_shown claims = option_map (λ (c : Vec ClaimView). map claim_of c.items) claims

-- the SPIFFE ID and the claims of a validation
abbrev pub validation_shown : Validation → List ℕ × Option (List Claim)
validation_shown v = (v.spiffe_id.now, claims_shown v.claims)

-- the order of texts
abbrev pub text_cmp : Bor (List ℕ) → Bor (List ℕ) → Ordering
text_cmp x y = slice_cmp nat_cmp x.now y.now

-- the entry of that name is kept unless the name was met, and its name is met now
pub record KeptWith {V : Type 0} (name : Bor (List ℕ)) (e : V) (old new : List V)
    (names met : BTreeSet (Bor (List ℕ))) : Type 0 where
  pub kept : new ≡ (if contains text_cmp names name then old else old ++ e ∷ [])
  pub met_too : Updates text_cmp names met name true
