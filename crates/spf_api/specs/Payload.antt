-- Payload: which octets lay out which response of which kind.
use Rattle.std.specs.Prelude.{◌≡◌, ℕ, List, ◌++◌, Option, Some, None}
use Rattle.std.specs.Option.{option_map}
use Rattle.spf_api.specs.declared.response.BundlesResponse.{BundlesResponse}
use Rattle.spf_api.specs.declared.response.JwtSvidsResponse.{JwtSvidsResponse}
use Rattle.spf_api.specs.declared.response.Response.{Response}
use Rattle.spf_api.specs.declared.response.Response.TheVariants as response
use Rattle.spf_api.specs.declared.response.ResponseKind.{ResponseKind}
use Rattle.spf_api.specs.declared.response.ResponseKind.TheVariants as kind
use Rattle.spf_api.specs.Reading.{context_at, bundles_at, jwt_svids_at}
use Rattle.spf_api.specs.Claims.{validation_payload, IsValidation, validation_at}
use Rattle.spf_api.specs.Layout.{list_text, IsListOf, bundle_entry_text, IsBundleEntry}
use Rattle.spf_api.specs.Layout.{jwt_svid_entry_text, IsJwtSvidEntry, context_payload, IsContext}

-- the octets are the text of a response that may be laid out
pub record LaysOut {R : Type 0} (Fits : R → Type 0) (text : R → List ℕ) (bytes : List ℕ)
    (r : R) : Type 0 where
  pub fits : Fits r
  pub octets : bytes ≡ text r

unfoldable pub bundles_payload : BundlesResponse → List ℕ
bundles_payload r = list_text bundle_entry_text r.bundles

abbrev pub IsBundles : BundlesResponse → Type 0
IsBundles r = IsListOf IsBundleEntry r.bundles

unfoldable pub jwt_svids_payload : JwtSvidsResponse → List ℕ
jwt_svids_payload r = list_text jwt_svid_entry_text r.svids

abbrev pub IsJwtSvids : JwtSvidsResponse → Type 0
IsJwtSvids r = IsListOf IsJwtSvidEntry r.svids

abbrev pub kind_of : Response → ResponseKind
kind_of (response.Context r) = kind.Context
kind_of (response.Bundles r) = kind.Bundles
kind_of (response.JwtSvids r) = kind.JwtSvids
kind_of (response.JwtBundles r) = kind.JwtBundles
kind_of (response.Validation r) = kind.Validation

-- the octets lay out the response, which is of that kind
unfoldable pub Payload : ResponseKind → List ℕ → Response → Type 0
Payload kind.Context bytes (response.Context r) = LaysOut IsContext context_payload bytes r
Payload kind.Bundles bytes (response.Bundles r) = LaysOut IsBundles bundles_payload bytes r
Payload kind.JwtSvids bytes (response.JwtSvids r) = LaysOut IsJwtSvids jwt_svids_payload bytes r
Payload kind.JwtBundles bytes (response.JwtBundles r) = LaysOut IsBundles bundles_payload bytes r
Payload kind.Validation bytes (response.Validation r) =
    LaysOut IsValidation validation_payload bytes r
Payload _ _ _ = ⊥

-- the response that the octets lay out; none where they lay out none
abbrev pub Finds : ResponseKind → List ℕ → Option Response → Type 0
Finds kind bytes (Some r) = Payload kind bytes r
Finds kind bytes None = (r : Response) → ¬ (Payload kind bytes r)

-- what reading a payload of that kind gives
unfoldable pub IsRead : ResponseKind → List ℕ → Option Response → Type 0
IsRead kind.Context bytes found = found ≡ option_map response.Context (context_at bytes)
IsRead kind.Bundles bytes found =
    found ≡ option_map (λ l. response.Bundles (record { bundles = l })) (bundles_at bytes)
IsRead kind.JwtSvids bytes found =
    found ≡ option_map (λ l. response.JwtSvids (record { svids = l })) (jwt_svids_at bytes)
IsRead kind.JwtBundles bytes found =
    found ≡ option_map (λ l. response.JwtBundles (record { bundles = l })) (bundles_at bytes)
IsRead kind.Validation bytes found = found ≡ option_map response.Validation (validation_at bytes)

-- what was appended lays out the response
pub record Appends (r : Response) (old new : List ℕ) : Type 0 where
  pub text : List ℕ
  pub lays : Payload (kind_of r) text r
  pub appended : new ≡ old ++ text
