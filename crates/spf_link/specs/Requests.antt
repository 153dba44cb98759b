-- The text of a request: a frame whose payload begins with the headers.
use Rattle.std.specs.Prelude.{ℕ, ◌^◌, nat_lt, if◌then◌else◌, List, [], ◌++◌, length, Option, None}
use Rattle.std.specs.Prelude.{Some}
unfoldable pub use Rattle.spf_view.specs.Frames.{sized}
pub use Rattle.spf_view.specs.Frames.{raw_text}
unfoldable pub use Rattle.spf_api.specs.Layout.{field_text, list_text}
use Rattle.spf_link.specs.Headers.{Header}
use Rattle.spf_link.specs.declared.request.Request.{Request}
use Rattle.spf_link.specs.declared.request.Request.TheVariants as requests
use Rattle.spf_link.specs.declared.wire_request.TheConstants.{X509_SVID, X509_BUNDLES, JWT_SVID}
use Rattle.spf_link.specs.declared.wire_request.TheConstants.{JWT_BUNDLES, VALIDATE_JWT}

abbrev pub request_kind : Request → ℕ
request_kind requests.X509Svid = X509_SVID
request_kind requests.X509Bundles = X509_BUNDLES
request_kind requests.JwtBundles = JWT_BUNDLES
request_kind (requests.JwtSvid spiffe_id audience) = JWT_SVID
request_kind (requests.ValidateJwt audience svid) = VALIDATE_JWT

-- a header: its name and its value
unfoldable pub header_text : Header → List ℕ
header_text h = field_text h.0 ++ field_text h.1

-- what stands after the headers
abbrev pub asked_text : Request → List ℕ
asked_text (requests.JwtSvid spiffe_id audience) =
    field_text spiffe_id ++ list_text field_text audience
asked_text (requests.ValidateJwt audience svid) = field_text audience ++ field_text svid
asked_text _ = []

abbrev pub request_payload : List Header → Request → List ℕ
request_payload headers request = list_text header_text headers ++ asked_text request

abbrev pub request_text : List Header → Request → List ℕ
request_text headers request = raw_text (request_kind request) (request_payload headers request)

-- the frame of a request, where its payload is not too long for a frame
abbrev pub framed : List Header → Request → Option (List ℕ)
framed headers request =
    if nat_lt (2 ^ 24) (length (request_payload headers request)) then None
    else Some (request_text headers request)
