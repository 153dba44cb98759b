-- What a caller asks for of a response: one SVID of several, a token, or a validated token.
use Rattle.std.specs.Prelude.{ℕ, List, [], ◌∷◌, codes, Bool, false, Option, None, Some, find}
use Rattle.std.specs.Prelude.{Result, Ok, Err, bytes_eq}
use Rattle.spf_io.specs.Rule.{◌>>=◌, broken_as}
use Rattle.spf_api.specs.declared.response.JwtSvidEntry.{JwtSvidEntry}
use Rattle.spf_api.specs.declared.response.JwtSvidsResponse.{JwtSvidsResponse}
use Rattle.spf_api.specs.declared.response.ValidationResponse.{ValidationResponse}
use Rattle.spf_api.specs.declared.error.WorkloadApiError.{WorkloadApiError}
use Rattle.spf_api.specs.declared.error.WorkloadApiError.TheVariants as api
use Rattle.spf_api.specs.Errors.{api_of_jwt_svid}
use Rattle.spf_jwt.specs.Responses.{entries_required, jwt_svids_of}
use Rattle.spf_jwt.specs.Token.{Svid, token_rule}
use Rattle.spf_jwt.specs.Validation.{validation_rule}

-- the first of a list of SVIDs or of their entries, which must have one
abbrev pub first_of : {A : Type 0} → List A → Result A WorkloadApiError
first_of [] = Err (api.MissingRequiredField (codes "JWTSVIDResponse.svids"))
first_of (x ∷ others) = Ok x

-- the first of the SVIDs of a response, all of which are read
unfoldable pub first_jwt_svid_of : JwtSvidsResponse → Result Svid WorkloadApiError
first_jwt_svid_of r = jwt_svids_of r >>= λ svids. first_of svids

-- the token of the first entry, which is not read
unfoldable pub first_token_of : JwtSvidsResponse → Result (List ℕ) WorkloadApiError
first_token_of r =
    entries_required r >>= λ _. first_of r.svids >>= λ (entry : JwtSvidEntry). Ok entry.svid

-- whether a hint is there, and is this one
abbrev pub is_hint : List ℕ → Option (List ℕ) → Bool
is_hint hint None = false
is_hint hint (Some own) = bytes_eq own hint

abbrev pub has_hint : List ℕ → Svid → Bool
has_hint hint svid = is_hint hint svid.hint

abbrev pub found_by : List ℕ → Option Svid → Result Svid WorkloadApiError
found_by hint None = Err (api.HintNotFound hint)
found_by hint (Some svid) = Ok svid

-- the first of the SVIDs of a response that has the hint
unfoldable pub hinted_jwt_svid_of : List ℕ → JwtSvidsResponse → Result Svid WorkloadApiError
hinted_jwt_svid_of hint r =
    jwt_svids_of r >>= λ svids. found_by hint (find (λ s. has_hint hint s) svids)

-- what a token says that was validated
unfoldable pub validated_svid_of : List ℕ → ValidationResponse → Result Svid WorkloadApiError
validated_svid_of token r =
    validation_rule r >>= λ _. broken_as api_of_jwt_svid (token_rule token)
