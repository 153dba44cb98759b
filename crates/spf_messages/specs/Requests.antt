-- The requests of the SPIFFE Workload API as messages. Those for X.509 SVIDs, X.509 bundles and
-- JWT bundles are empty.
use Rattle.std.specs.Str.{IsUtf8}
use Rattle.std.specs.Prelude.{ℕ, ◌<◌, ◌^◌, List, [], ◌++◌, length, Bool, ◌==◌, ◌&&◌, Option, Some, None}
use Rattle.std.specs.Prelude.{if◌then◌else◌}
use Rattle.std.specs.List.{flat_map, list_all}
use Rattle.spf_io.specs.Option.{◌>>=◌}
use Rattle.spf_messages.specs.Wire.{WireField, field_text}
use Rattle.spf_messages.specs.Message.{fields_of, values_of, last_of, is_delimited, is_text}

-- a field that is left out where it is empty
abbrev pub unless_empty : ℕ → List ℕ → List ℕ
unless_empty n octets = if length octets == 0 then [] else field_text n octets

-- JWTSVIDRequest: audience 1 (repeated), spiffe_id 2
unfoldable pub jwt_svid_request : List (List ℕ) → List ℕ → List ℕ
jwt_svid_request audience spiffe_id = flat_map (field_text 1) audience ++ unless_empty 2 spiffe_id

-- ValidateJWTSVIDRequest: audience 1, svid 2
unfoldable pub validation_request : List ℕ → List ℕ → List ℕ
validation_request audience svid = unless_empty 1 audience ++ unless_empty 2 svid

-- a text whose length a varint can say
pub record IsRequestText (octets : List ℕ) : Type 0 where
  pub short : length octets < 2 ^ 64
  pub utf8 : IsUtf8 octets

-- the fields 1 and 2 are texts
abbrev pub is_request_field : WireField → Bool
is_request_field f = is_delimited 2 f && (is_text 1 f && is_text 2 f)

-- the audience and the SPIFFE ID that a JWTSVIDRequest says
unfoldable pub jwt_svid_request_in : List ℕ → Option (List (List ℕ) × List ℕ)
jwt_svid_request_in bytes = do
  fs ← fields_of bytes
  if list_all is_request_field fs then Some (values_of 1 fs, last_of 2 fs) else None

-- the audience and the token that a ValidateJWTSVIDRequest says
unfoldable pub validation_request_in : List ℕ → Option (List ℕ × List ℕ)
validation_request_in bytes = do
  fs ← fields_of bytes
  if list_all is_request_field fs then Some (last_of 1 fs, last_of 2 fs) else None
