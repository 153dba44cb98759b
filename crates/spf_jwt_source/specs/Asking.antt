-- One ask of a connector or of its link, and the event that it yields.
use Rattle.std.specs.Prelude.{[], Option, None, Some}
use Rattle.spf_api.specs.declared.response.BundlesResponse.{BundlesResponse}
use Rattle.spf_api.specs.declared.response.Response.{Response}
use Rattle.spf_api.specs.declared.response.Response.TheVariants as response
use Rattle.spf_link.specs.Metadata.{with_metadata}
use Rattle.spf_link.specs.declared.request.Request.TheVariants as request
use Rattle.spf_feeder.specs.Asking.{Wanted}

abbrev pub bundles_of : Response → Option BundlesResponse
bundles_of (response.JwtBundles r) = Some r
bundles_of _ = None

-- JWT bundles, with the header of the Workload API alone
abbrev pub jwt_bundles : Wanted BundlesResponse
jwt_bundles = record {
  start = record { headers = with_metadata []; request = request.JwtBundles };
  item = bundles_of;
}
