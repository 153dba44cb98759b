-- What a validated token has to say (SPIFFE Workload API section 6.3).
use Rattle.std.specs.Prelude.{ℕ, List, [], ◌∷◌, length, codes, Bool, true, false, not, ◌==◌, ◌&&◌}
use Rattle.std.specs.Prelude.{Option, Some, None}
use Rattle.std.specs.Prelude.{Result, Ok, Err, is_ok, if◌then◌else◌}
use Rattle.std.specs.List.{list_all}
use Rattle.std.specs.Str.{bytes_eq}
use Rattle.spf_io.specs.Rule.{◌>>=◌}
use Rattle.spf_id.specs.Rule.{id_rule}
use Rattle.spf_api.specs.declared.response.Claim.{Claim}
use Rattle.spf_api.specs.declared.response.ClaimValue.{ClaimValue, ClaimValue-F, out-ClaimValue}
use Rattle.spf_api.specs.declared.response.ValidationResponse.{ValidationResponse}
use Rattle.spf_api.specs.declared.error.WorkloadApiError.{WorkloadApiError}
use Rattle.spf_api.specs.declared.error.WorkloadApiError.TheVariants as api
use Rattle.spf_api.specs.Parsed.{required}
use Rattle.spf_jwt.specs.declared.validation.ClaimState.{ClaimState}
use Rattle.spf_jwt.specs.declared.validation.ClaimState.TheVariants.{Missing, Invalid, Valid}

-- the first, or else the second
abbrev pub or_else : Option ClaimValue → Option ClaimValue → Option ClaimValue
or_else (Some v) other = Some v
or_else None other = other

-- the value of a claim, where it has that name
abbrev pub named : List ℕ → Claim → Option ClaimValue
named name claim = if bytes_eq claim.name name then Some claim.value else None

-- the value of the last claim of that name
abbrev pub last_claim : List ℕ → List Claim → Option ClaimValue
last_claim name [] = None
last_claim name (claim ∷ claims) = or_else (last_claim name claims) (named name claim)

abbrev pub state_of : Bool → ClaimState
state_of true = Valid
state_of false = Invalid

-- `sub`, a text that is a SPIFFE ID
abbrev pub sub_layer : ClaimValue-F ClaimValue Claim → ClaimState
sub_layer ClaimValue-F.Unset = Missing
sub_layer (ClaimValue-F.Words text) = state_of (is_ok (id_rule text))
sub_layer _ = Invalid

abbrev pub sub_state : Option ClaimValue → ClaimState
sub_state None = Missing
sub_state (Some v) = sub_layer (out-ClaimValue v)

abbrev pub words_layer : ClaimValue-F ClaimValue Claim → Bool
words_layer (ClaimValue-F.Words text) = true
words_layer _ = false

abbrev pub is_words : ClaimValue → Bool
is_words v = words_layer (out-ClaimValue v)

-- a list of texts that is not empty
abbrev pub are_words : List ClaimValue → Bool
are_words values = not (length values == 0) && list_all is_words values

-- `aud`, a text or a list of texts
abbrev pub aud_layer : ClaimValue-F ClaimValue Claim → ClaimState
aud_layer ClaimValue-F.Unset = Missing
aud_layer (ClaimValue-F.Words text) = Valid
aud_layer (ClaimValue-F.Items values) = state_of (are_words values)
aud_layer _ = Invalid

abbrev pub aud_state : Option ClaimValue → ClaimState
aud_state None = Missing
aud_state (Some v) = aud_layer (out-ClaimValue v)

-- `exp`, a whole number
abbrev pub exp_layer : ClaimValue-F ClaimValue Claim → ClaimState
exp_layer ClaimValue-F.Unset = Missing
exp_layer (ClaimValue-F.Whole number) = Valid
exp_layer _ = Invalid

abbrev pub exp_state : Option ClaimValue → ClaimState
exp_state None = Missing
exp_state (Some v) = exp_layer (out-ClaimValue v)

abbrev pub state_rule : List ℕ → ClaimState → Result (Unit {0}) WorkloadApiError
state_rule field Missing = Err (api.MissingRequiredField field)
state_rule field Invalid = Err (api.InvalidResponseField field)
state_rule field Valid = Ok tt

-- the three claims in turn
abbrev pub claims_rule : List Claim → Result (Unit {0}) WorkloadApiError
claims_rule claims =
    state_rule (codes "ValidateJWTSVIDResponse.claims.sub")
    (sub_state (last_claim (codes "sub") claims))
    >>= λ s. state_rule (codes "ValidateJWTSVIDResponse.claims.aud")
    (aud_state (last_claim (codes "aud") claims))
    >>= λ a. state_rule (codes "ValidateJWTSVIDResponse.claims.exp")
    (exp_state (last_claim (codes "exp") claims))

abbrev pub given_claims : Option (List Claim) → Result (Unit {0}) WorkloadApiError
given_claims None = Err (api.MissingRequiredField (codes "ValidateJWTSVIDResponse.claims"))
given_claims (Some claims) = claims_rule claims

-- what a validation has to say, or the first broken rule
unfoldable pub validation_rule : ValidationResponse → Result (Unit {0}) WorkloadApiError
validation_rule r =
    required r.spiffe_id (codes "ValidateJWTSVIDResponse.spiffe_id") >>= λ i.
    given_claims r.claims
