-- Keys and key sets (RFC 7517 sections 4 and 5; SPIFFE JWT-SVID section 4).
use Rattle.std.specs.Prelude.{ℕ, List, [], ◌∷◌, Option, Some, None, option_and_then, is_some, not}
use Rattle.std.specs.Prelude.{Result, Ok, Err, if◌then◌else◌, codes}
use Rattle.serde_json.specs.Data.{Data, Items}
use Rattle.serde_json.specs.Find.{get, as_str, as_array, as_object}
use Rattle.serde_json.specs.Written.{compact_text}
use Rattle.spf_io.specs.Rule.{◌>>=◌, each}
use Rattle.spf_api.specs.declared.jwt_error.JwtBundleError.{JwtBundleError}
use Rattle.spf_api.specs.declared.jwt_error.JwtBundleError.TheVariants.{MissingKeys, NotAnObject}
use Rattle.spf_api.specs.declared.jwt_error.JwtBundleError.TheVariants.{MissingKeyId}
use Rattle.spf_jwt.specs.Json.{data_of, list_of, whole_rule}

-- a key: its `kid`, and its JSON text without spaces, with the names of each object in order
pub record Authority : Type 0 where
  pub key_id : List ℕ
  pub jwk : List ℕ

-- the `kid` of a key, which is a text and not empty
abbrev pub key_id_rule : Option (List ℕ) → Result (List ℕ) JwtBundleError
key_id_rule None = Err MissingKeyId
key_id_rule (Some []) = Err MissingKeyId
key_id_rule (Some (c ∷ text)) = Ok (c ∷ text)

-- the key that a value is, or the first broken rule
unfoldable pub key_rule : Data → Result Authority JwtBundleError
key_rule d =
    if not (is_some (as_object d)) then Err NotAnObject
    else (key_id_rule (option_and_then as_str (get (codes "kid") d))
    >>= λ kid. Ok (record { key_id = kid; jwk = compact_text d }))

abbrev pub items_rule : Option Items → Result (List Data) JwtBundleError
items_rule None = Err MissingKeys
items_rule (Some items) = Ok (list_of items)

-- the keys of a key set, in order, or the first broken rule
unfoldable pub keys_rule : Data → Result (List Authority) JwtBundleError
keys_rule d = items_rule (option_and_then as_array (get (codes "keys") d)) >>= each key_rule

-- the key that bytes are
abbrev pub authority_of : List ℕ → Result Authority JwtBundleError
authority_of json = whole_rule (data_of json) >>= key_rule

-- the keys of the key set that bytes are
abbrev pub key_set_of : List ℕ → Result (List Authority) JwtBundleError
key_set_of json = whole_rule (data_of json) >>= keys_rule
