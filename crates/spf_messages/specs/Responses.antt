-- The responses of the SPIFFE Workload API as messages.
use Rattle.std.specs.Prelude.{ℕ, List, Option}
use Rattle.std.specs.Option.{option_map}
use Rattle.spf_api.specs.declared.response.Response.{Response}
use Rattle.spf_api.specs.declared.response.Response.TheVariants as response
use Rattle.spf_api.specs.declared.response.ResponseKind.{ResponseKind}
use Rattle.spf_api.specs.declared.response.ResponseKind.TheVariants as kind
use Rattle.spf_messages.specs.Message.{context_message, x509_bundles_message, jwt_svids_message}
use Rattle.spf_messages.specs.Message.{jwt_bundles_message}
use Rattle.spf_messages.specs.Claims.{validation_message}

-- the response of that kind that a message says; none where the octets are no such message
unfoldable pub response_in : ResponseKind → List ℕ → Option Response
response_in kind.Context bytes = option_map response.Context (context_message bytes)
response_in kind.Bundles bytes =
    option_map (λ l. response.Bundles (record { bundles = l })) (x509_bundles_message bytes)
response_in kind.JwtSvids bytes =
    option_map (λ l. response.JwtSvids (record { svids = l })) (jwt_svids_message bytes)
response_in kind.JwtBundles bytes =
    option_map (λ l. response.JwtBundles (record { bundles = l })) (jwt_bundles_message bytes)
response_in kind.Validation bytes = option_map response.Validation (validation_message bytes)
