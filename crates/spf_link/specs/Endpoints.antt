-- What a connector of endpoints validates.
use Rattle.std.specs.Prelude.{◌≡◌, ℕ, List, codes, Option, None, Some, Result, Ok, Err}
use Rattle.spf_api.specs.declared.endpoint_error.EndpointError.{EndpointError}
use Rattle.spf_api.specs.declared.link.ClientFault.{ClientFault}
use Rattle.spf_api.specs.declared.link.ClientFault.TheVariants as fault
use Rattle.std.specs.Net.Addr.{IsIpv4OfBits, IsIpv6OfBits}
use Rattle.std.specs.declared.net.ip_addr.IpAddr.{IpAddr}
use Rattle.std.specs.declared.net.ip_addr.IpAddr.TheVariants as ip
use Rattle.spf_link.specs.declared.endpoint.Endpoint.{Endpoint}
use Rattle.spf_link.specs.declared.endpoint.EndpointHost.{EndpointHost}
use Rattle.spf_link.specs.declared.endpoint.EndpointHost.TheVariants as hosts
use Rattle.spf_link.specs.Endpoint.{endpoint_rule}
use Rattle.spf_link.specs.Environment.{value_rule}
use Rattle.spf_system.specs.declared.environment.EnvValue.{EnvValue}
use Rattle.spf_link.specs.declared.endpoint_connector.Target.{Target}
use Rattle.spf_link.specs.declared.endpoint_connector.Target.TheVariants as target

-- only whether the rules are kept
abbrev pub kept : {A E : Type 0} → Result A E → Result (Unit {0}) E
kept (Ok x) = Ok tt
kept (Err e) = Err e

-- what a target names, or the first broken rule of its text
abbrev pub named : Target → Result Endpoint EndpointError
named (target.Text text) = endpoint_rule text
named (target.Endpoint endpoint) = Ok endpoint

-- the first broken rule of a target; an endpoint breaks none
abbrev pub target_rule : Target → Result (Unit {0}) EndpointError
target_rule t = kept (named t)

abbrev pub IsParsed : Target → Type 0
IsParsed (target.Text text) = ⊥
IsParsed (target.Endpoint endpoint) = Unit {0}

-- the other side said nothing
abbrev pub IsNoStatus : ClientFault → Type 0
IsNoStatus (fault.Status s) = ⊥
IsNoStatus _ = Unit {0}

-- Nobody is reached by a text that breaks a rule. Where nobody is reached, the reason is no status:
-- also where the endpoint is valid and nobody listens.
abbrev pub IsUnreached : {E L : Type 0} → Result (Unit {0}) E → Result L ClientFault → Type 0
IsUnreached rule (Ok link) = rule ≡ Ok tt
IsUnreached rule (Err f) = IsNoStatus f

-- the variable that names the endpoint of the Workload API
abbrev pub endpoint_variable : List ℕ
endpoint_variable = codes "SPIFFE_ENDPOINT_SOCKET"

-- nobody is reached where the value of the variable, where it is known, names no endpoint
abbrev pub ReachesNamed : {L : Type 0} → Option EnvValue → Result L ClientFault → Type 0
ReachesNamed None (Ok link) = Unit {0}
ReachesNamed None (Err f) = IsNoStatus f
ReachesNamed (Some value) result = IsUnreached (kept (value_rule value)) result

-- the IP address of the system has the bits of this host
abbrev pub IsAddressOf : EndpointHost → IpAddr → Type 0
IsAddressOf (hosts.V4 bits) (ip.V4 a) = IsIpv4OfBits a bits
IsAddressOf (hosts.V6 bits) (ip.V6 a) = IsIpv6OfBits a bits
IsAddressOf _ _ = ⊥
