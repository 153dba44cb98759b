-- Requests, and which responses they ask for.
use Rattle.spf_api.specs.declared.response.ResponseKind.{ResponseKind}
use Rattle.spf_api.specs.declared.response.ResponseKind.TheVariants as kind
use Rattle.spf_link.specs.declared.request.Request.{Request}
use Rattle.spf_link.specs.declared.request.Request.TheVariants as request

-- the kind of the responses to a request (SPIFFE Workload API sections 5 and 6)
abbrev pub answered_by : Request → ResponseKind
answered_by request.X509Svid = kind.Context
answered_by request.X509Bundles = kind.Bundles
answered_by request.JwtBundles = kind.JwtBundles
answered_by (request.JwtSvid spiffe_id audience) = kind.JwtSvids
answered_by (request.ValidateJwt audience svid) = kind.Validation
