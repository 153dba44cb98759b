-- Tokens (RFC 7515 sections 3.1 and 4.1; RFC 7519 section 4.1; SPIFFE JWT-SVID sections 2 and 3).
use Rattle.std.specs.Prelude.{ℕ, ℤ, List, [], ◌∷◌, length, Option, Some, None, option_and_then}
use Rattle.std.specs.Prelude.{is_some, Bool, false, ◌||◌, ◌&&◌, not, ◌==◌, Result, Ok, Err}
use Rattle.std.specs.Prelude.{codes, if◌then◌else◌}
use Rattle.std.specs.Char.{is_ascii_alphanumeric}
use Rattle.std.specs.List.{list_all, slice_split}
use Rattle.std.specs.Str.{bytes_eq}
use Rattle.base64.specs.GeneralPurpose.{decode_of}
use Rattle.base64.specs.Engines.{url_safe_no_pad}
use Rattle.base64.specs.declared.decode.DecodeError.{DecodeError}
use Rattle.serde_json.specs.Data.{Data, Items}
use Rattle.serde_json.specs.Find.{get, as_str, as_number, as_i64, as_array, as_object}
use Rattle.serde_json.specs.Written.{has_float}
use Rattle.spf_io.specs.Rule.{◌>>=◌, broken_as, each}
use Rattle.spf_id.specs.Id.{Id}
use Rattle.spf_id.specs.Rule.{id_rule}
use Rattle.spf_id.specs.declared.error.SpiffeIdError.TheVariants.{WrongScheme}
use Rattle.spf_api.specs.declared.jwt_error.JwtSvidError.{JwtSvidError}
use Rattle.spf_api.specs.declared.jwt_error.JwtSvidError.TheVariants.{Parts, UnsupportedAlg}
use Rattle.spf_api.specs.declared.jwt_error.JwtSvidError.TheVariants.{InvalidTyp, InvalidKid}
use Rattle.spf_api.specs.declared.jwt_error.JwtSvidError.TheVariants.{MissingClaim, InvalidSub}
use Rattle.spf_api.specs.declared.jwt_error.JwtSvidError.TheVariants.{InvalidAud, InvalidExp}
use Rattle.spf_jwt.specs.declared.token.PartFault.{PartFault}
use Rattle.spf_jwt.specs.declared.token.PartFault.TheVariants.{NoObject, HoldsFloat}
use Rattle.spf_jwt.specs.Errors.{sub_of, header_of, claims_of}
use Rattle.spf_jwt.specs.Json.{data_of, list_of}

-- an identity, for whom it is meant, its expiry in Unix seconds, its token,
-- the key that is named, and what the operator says that it is for
pub record Svid : Type 0 where
  pub id : Id
  pub audience : List (List ℕ)
  pub expiry : ℤ
  pub token : List ℕ
  pub key_id : Option (List ℕ)
  pub hint : Option (List ℕ)

abbrev pub FULL_STOP : ℕ
FULL_STOP = 46

abbrev pub HYPHEN : ℕ
HYPHEN = 45

abbrev pub UNDERSCORE : ℕ
UNDERSCORE = 95

abbrev pub is_full_stop : ℕ → Bool
is_full_stop c = c == FULL_STOP

-- letters and digits of ASCII, `-`, `_` (RFC 4648 section 5)
abbrev pub is_base64url_octet : ℕ → Bool
is_base64url_octet c = is_ascii_alphanumeric c || c == HYPHEN || c == UNDERSCORE

-- whether a text can be a signature, of which only the alphabet is looked at
abbrev pub is_signature : List ℕ → Bool
is_signature text = not (length text == 0) && list_all is_base64url_octet text

-- the header and the claims of the parts between full stops
unfoldable pub parts_rule : List (List ℕ) → Result (List ℕ × List ℕ) JwtSvidError
parts_rule [] = Err Parts
parts_rule (header ∷ []) = Err Parts
parts_rule (header ∷ claims ∷ []) = Err Parts
parts_rule (header ∷ claims ∷ signature ∷ []) =
    if is_signature signature then Ok (header, claims) else Err Parts
parts_rule (header ∷ claims ∷ signature ∷ other ∷ others) = Err Parts

-- an object whose numbers are whole
abbrev pub object_rule : Option Data → Result Data PartFault
object_rule None = Err NoObject
object_rule (Some d) =
    if not (is_some (as_object d)) then Err NoObject
    else (if has_float d then Err HoldsFloat else Ok d)

abbrev pub decoded_rule : Result (List ℕ) DecodeError → Result Data PartFault
decoded_rule (Err e) = Err NoObject
decoded_rule (Ok bytes) = object_rule (data_of bytes)

-- the JSON object that a part of a token is, in base64url without padding
unfoldable pub part_rule : List ℕ → Result Data PartFault
part_rule part = decoded_rule (decode_of url_safe_no_pad part)

-- the algorithms of a JWT-SVID (RFC 7518 section 3.1)
unfoldable pub is_algorithm : List ℕ → Bool
is_algorithm name =
    bytes_eq name (codes "RS256") || bytes_eq name (codes "RS384") || bytes_eq name (codes "RS512")
    || bytes_eq name (codes "ES256") || bytes_eq name (codes "ES384")
    || bytes_eq name (codes "ES512") || bytes_eq name (codes "PS256")
    || bytes_eq name (codes "PS384") || bytes_eq name (codes "PS512")

abbrev pub alg_rule : Option (List ℕ) → Result (Unit {0}) JwtSvidError
alg_rule None = Err UnsupportedAlg
alg_rule (Some name) = if is_algorithm name then Ok tt else Err UnsupportedAlg

abbrev pub is_type : Option (List ℕ) → Bool
is_type None = false
is_type (Some name) = bytes_eq name (codes "JWT") || bytes_eq name (codes "JOSE")

abbrev pub typ_rule : Option Data → Result (Unit {0}) JwtSvidError
typ_rule None = Ok tt
typ_rule (Some d) = if is_type (as_str d) then Ok tt else Err InvalidTyp

abbrev pub kid_text : Option (List ℕ) → Result (Option (List ℕ)) JwtSvidError
kid_text None = Err InvalidKid
kid_text (Some text) = Ok (Some text)

abbrev pub kid_rule : Option Data → Result (Option (List ℕ)) JwtSvidError
kid_rule None = Ok None
kid_rule (Some d) = kid_text (as_str d)

-- the key that a header names, where its algorithm and type are allowed
abbrev pub header_rule : Data → Result (Option (List ℕ)) JwtSvidError
header_rule d =
    alg_rule (option_and_then as_str (get (codes "alg") d))
    >>= λ _. typ_rule (get (codes "typ") d) >>= λ _. kid_rule (get (codes "kid") d)

-- the key that the header in a part names
abbrev pub header_key_rule : List ℕ → Result (Option (List ℕ)) JwtSvidError
header_key_rule part = broken_as header_of (part_rule part) >>= header_rule

abbrev pub sub_text : Option (List ℕ) → Result Id JwtSvidError
sub_text None = Err (InvalidSub WrongScheme)
sub_text (Some text) = broken_as sub_of (id_rule text)

abbrev pub sub_rule : Option Data → Result Id JwtSvidError
sub_rule None = Err (MissingClaim (codes "sub"))
sub_rule (Some d) = sub_text (as_str d)

abbrev pub text_rule : Option (List ℕ) → Result (List ℕ) JwtSvidError
text_rule None = Err InvalidAud
text_rule (Some text) = Ok text

-- a list of texts that is not empty
abbrev pub texts_rule : List Data → Result (List (List ℕ)) JwtSvidError
texts_rule [] = Err InvalidAud
texts_rule (d ∷ ds) = each (λ e. text_rule (as_str e)) (d ∷ ds)

abbrev pub text_or_texts : Option (List ℕ) → Option Items → Result (List (List ℕ)) JwtSvidError
text_or_texts (Some text) items = Ok (text ∷ [])
text_or_texts None (Some items) = texts_rule (list_of items)
text_or_texts None None = Err InvalidAud

abbrev pub aud_rule : Option Data → Result (List (List ℕ)) JwtSvidError
aud_rule None = Err (MissingClaim (codes "aud"))
aud_rule (Some d) = text_or_texts (as_str d) (as_array d)

abbrev pub exp_number : Option ℤ → Result ℤ JwtSvidError
exp_number None = Err InvalidExp
exp_number (Some z) = Ok z

abbrev pub exp_rule : Option Data → Result ℤ JwtSvidError
exp_rule None = Err (MissingClaim (codes "exp"))
exp_rule (Some d) = exp_number (option_and_then as_i64 (as_number d))

-- what a header and claims say of a token
abbrev pub claims_rule : List ℕ → Option (List ℕ) → Data → Result Svid JwtSvidError
claims_rule token key_id d =
    sub_rule (get (codes "sub") d) >>= λ id. aud_rule (get (codes "aud") d) >>= λ audience.
    exp_rule (get (codes "exp") d) >>= λ expiry.
    Ok (record {
      id = id;
      audience = audience;
      expiry = expiry;
      token = token;
      key_id = key_id;
      hint = None;
    })

-- TokenOf: what a token says, or the first broken rule
unfoldable pub token_rule : List ℕ → Result Svid JwtSvidError
token_rule token =
    parts_rule (slice_split is_full_stop token)
    >>= λ parts. header_key_rule parts.0
    >>= λ key_id. broken_as claims_of (part_rule parts.1)
    >>= λ claims. claims_rule token key_id claims
