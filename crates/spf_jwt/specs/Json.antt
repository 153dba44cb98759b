-- JSON texts (RFC 8259), as `serde_json` reads them.
use Rattle.std.specs.Prelude.{ℕ, List, [], ◌∷◌, Option, Some, None, Result, Ok, Err}
use Rattle.std.specs.Prelude.{if◌then◌else◌}
use Rattle.std.specs.Str.{is_utf8}
use Rattle.serde_json.specs.Data.{Data, Items, no_items, item}
use Rattle.serde_json.specs.Read.{read}
use Rattle.serde_json.specs.Written.{has_float}
use Rattle.spf_api.specs.declared.jwt_error.JsonErrorKind.TheVariants.{Syntax}
use Rattle.spf_api.specs.declared.jwt_error.JwtBundleError.{JwtBundleError}
use Rattle.spf_api.specs.declared.jwt_error.JwtBundleError.TheVariants.{Json, HoldsFloat}

-- the value of bytes that are a JSON text in UTF-8
unfoldable pub data_of : List ℕ → Option Data
data_of bytes = if is_utf8 bytes then read bytes else None

-- the items of an array, as a list
abbrev pub list_of : Items → List Data
list_of no_items = []
list_of (item d ds) = d ∷ list_of ds

-- a value whose numbers are whole, or the first broken rule
abbrev pub whole_rule : Option Data → Result Data JwtBundleError
whole_rule None = Err (Json (record { kind = Syntax }))
whole_rule (Some d) = if has_float d then Err HoldsFloat else Ok d
