-- How errors are told apart: whether memory ran out, and what the kind of a JSON fault leaves open.
use Rattle.std.specs.Prelude.{Bool, true, false}
use Rattle.spf_api.specs.declared.jwt_error.JsonErrorKind.TheVariants.{Syntax}
use Rattle.spf_api.specs.declared.jwt_error.JwtBundleError.{JwtBundleError}
use Rattle.spf_api.specs.declared.jwt_error.JwtBundleError.TheVariants as keys
use Rattle.spf_id.specs.declared.error.SpiffeIdError.{SpiffeIdError}
use Rattle.spf_id.specs.declared.error.SpiffeIdError.TheVariants as id
use Rattle.spf_api.specs.declared.jwt_error.JwtSvidError.{JwtSvidError}
use Rattle.spf_api.specs.declared.jwt_error.JwtSvidError.TheVariants as token
use Rattle.spf_api.specs.declared.error.WorkloadApiError.{WorkloadApiError}
use Rattle.spf_api.specs.declared.error.WorkloadApiError.TheVariants as api
use Rattle.spf_jwt.specs.declared.token.PartFault.{PartFault}
use Rattle.spf_jwt.specs.declared.token.PartFault.TheVariants as part
use Rattle.spf_jwt.specs.declared.json.JsonFault.{JsonFault}
use Rattle.spf_jwt.specs.declared.json.JsonFault.TheVariants as json

-- whether an error says that memory ran out
abbrev pub is_memory_json : JsonFault → Bool
is_memory_json json.OutOfMemory = true
is_memory_json (json.Invalid e) = false

abbrev pub is_memory_keys : JwtBundleError → Bool
is_memory_keys keys.OutOfMemory = true
is_memory_keys _ = false

-- the same error; a text that is not JSON is reported as that, whatever else `serde_json` says of
-- it
abbrev pub of_any_kind : JwtBundleError → JwtBundleError
of_any_kind (keys.Json kind) = keys.Json (record { kind = Syntax })
of_any_kind e = e

abbrev pub is_memory_part : PartFault → Bool
is_memory_part part.OutOfMemory = true
is_memory_part _ = false

abbrev pub is_memory_token : JwtSvidError → Bool
is_memory_token token.OutOfMemory = true
is_memory_token _ = false

-- how a text that is not a SPIFFE ID reads as a claim `sub`
abbrev pub sub_of : SpiffeIdError → JwtSvidError
sub_of id.OutOfMemory = token.OutOfMemory
sub_of e = token.InvalidSub e

-- how a faulty part reads as the header, and as the claims
abbrev pub header_of : PartFault → JwtSvidError
header_of part.NoObject = token.HeaderText
header_of part.HoldsFloat = token.HeaderFloat
header_of part.OutOfMemory = token.OutOfMemory

abbrev pub claims_of : PartFault → JwtSvidError
claims_of part.NoObject = token.ClaimsText
claims_of part.HoldsFloat = token.ClaimsFloat
claims_of part.OutOfMemory = token.OutOfMemory

-- the same with an error of a key set inside
abbrev pub api_of_any_kind : WorkloadApiError → WorkloadApiError
api_of_any_kind (api.JwtBundle e) = api.JwtBundle (of_any_kind e)
api_of_any_kind e = e
