-- An error of one layer as an error of the layer above: out of memory stays out of memory.
use Rattle.std.specs.Prelude.{Bool, true, false, Option, Some, None, codes, if◌then◌else◌}
use Rattle.spf_id.specs.declared.error.SpiffeIdError.{SpiffeIdError}
use Rattle.spf_id.specs.declared.error.SpiffeIdError.TheVariants as id
use Rattle.spf_x509.specs.declared.svid_error.X509SvidError.{X509SvidError}
use Rattle.spf_x509.specs.declared.svid_error.X509SvidError.TheVariants as svid
use Rattle.spf_x509.specs.declared.error.X509BundleError.{X509BundleError}
use Rattle.spf_x509.specs.declared.error.X509BundleError.TheVariants as bundle
use Rattle.spf_api.specs.declared.endpoint_error.EndpointError.{EndpointError}
use Rattle.spf_api.specs.declared.endpoint_error.EndpointError.TheVariants as endpoint
use Rattle.spf_api.specs.declared.status.GrpcStatusCode.{GrpcStatusCode}
use Rattle.spf_api.specs.declared.status.GrpcStatusCode.TheVariants as code
use Rattle.spf_api.specs.declared.status.TransportError.{TransportError}
use Rattle.spf_api.specs.declared.status.TransportError.TheVariants as transport
use Rattle.spf_api.specs.declared.jwt_error.JwtSvidError.{JwtSvidError}
use Rattle.spf_api.specs.declared.jwt_error.JwtSvidError.TheVariants as jwt_svid
use Rattle.spf_api.specs.declared.jwt_error.JwtBundleError.{JwtBundleError}
use Rattle.spf_api.specs.declared.jwt_error.JwtBundleError.TheVariants as jwt_bundle
use Rattle.spf_api.specs.Refused.{Refused}
use Rattle.spf_api.specs.Status.{holds}
use Rattle.spf_api.specs.declared.error.WorkloadApiError.{WorkloadApiError}
use Rattle.spf_api.specs.declared.error.WorkloadApiError.TheVariants as api

-- whether memory ran out
abbrev pub is_memory_api : WorkloadApiError → Bool
is_memory_api api.OutOfMemory = true
is_memory_api _ = false

abbrev pub api_of_id : SpiffeIdError → WorkloadApiError
api_of_id id.OutOfMemory = api.OutOfMemory
api_of_id e = api.SpiffeId e

abbrev pub api_of_endpoint : EndpointError → WorkloadApiError
api_of_endpoint endpoint.OutOfMemory = api.OutOfMemory
api_of_endpoint e = api.Endpoint e

abbrev pub api_of_transport : TransportError → WorkloadApiError
api_of_transport transport.OutOfMemory = api.OutOfMemory
api_of_transport e = api.Transport e

abbrev pub api_of_svid : X509SvidError → WorkloadApiError
api_of_svid svid.OutOfMemory = api.OutOfMemory
api_of_svid e = api.X509Svid e

abbrev pub api_of_jwt_svid : JwtSvidError → WorkloadApiError
api_of_jwt_svid jwt_svid.OutOfMemory = api.OutOfMemory
api_of_jwt_svid e = api.JwtSvid e

abbrev pub api_of_bundle : X509BundleError → WorkloadApiError
api_of_bundle bundle.OutOfMemory = api.OutOfMemory
api_of_bundle e = api.X509Bundle e

abbrev pub api_of_jwt_bundle : JwtBundleError → WorkloadApiError
api_of_jwt_bundle jwt_bundle.OutOfMemory = api.OutOfMemory
api_of_jwt_bundle e = api.JwtBundle e

-- whether it is a denial
abbrev pub is_denied : GrpcStatusCode → Bool
is_denied code.PermissionDenied = true
is_denied _ = false

-- the error that a status stands for
abbrev pub status_reading : Refused → WorkloadApiError
status_reading s =
    if is_denied s.code
    then (if holds (codes "no identity issued") s.message then api.NoIdentityIssued
    else api.PermissionDenied s.message)
    else api.Transport (transport.Status s)

-- the code of a status of the transport
abbrev pub transport_code : TransportError → Option GrpcStatusCode
transport_code (transport.Status s) = Some s.code
transport_code _ = None

abbrev pub status_code_of : WorkloadApiError → Option GrpcStatusCode
status_code_of (api.Transport e) = transport_code e
status_code_of _ = None
