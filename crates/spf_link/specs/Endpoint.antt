-- The endpoint rule: the endpoint that a text names, or the first broken rule.
use Rattle.std.specs.Prelude.{ℕ, Bool, true, false, not, ◌&&◌, ◌||◌, ◌==◌, nat_eq, if◌then◌else◌}
use Rattle.std.specs.Prelude.{List, ◌++◌, length, drop, codes, bytes_eq, Option, None, Some}
use Rattle.std.specs.Prelude.{is_some, Result, Ok, Err}
use Rattle.std.specs.Int.{w32, from_be_bytes}
use Rattle.std.specs.List.{starts_with}
use Rattle.std.specs.Net.Addr.{ipv4_bits, ipv6_bits}
use Rattle.std.specs.Net.Reader.{whole_value, read_ipv4}
use Rattle.std.specs.Option.{option_map, option_and_then}
use Rattle.url.specs.Parser.{parse_url}
use Rattle.url.specs.Parts.{Parts, has_host, nonempty_host}
use Rattle.url.specs.declared.error.ParseError.{ParseError}
use Rattle.url.specs.declared.host.Host.{Host}
use Rattle.url.specs.declared.host.Host.TheVariants.{Domain, Ipv4, Ipv6}
use Rattle.spf_io.specs.Rule.{◌>>=◌, broken_as}
use Rattle.spf_api.specs.declared.endpoint_error.EndpointParseError.{EndpointParseError}
use Rattle.spf_api.specs.declared.endpoint_error.EndpointError.{EndpointError}
use Rattle.spf_api.specs.declared.endpoint_error.EndpointError.TheVariants as errors
use Rattle.spf_link.specs.declared.endpoint.Endpoint.{Endpoint}
use Rattle.spf_link.specs.declared.endpoint.Endpoint.TheVariants as endpoints
use Rattle.spf_link.specs.declared.endpoint.EndpointHost.{EndpointHost}
use Rattle.spf_link.specs.declared.endpoint.EndpointHost.TheVariants as hosts

abbrev pub is_memory : EndpointError → Bool
is_memory errors.OutOfMemory = true
is_memory _ = false

-- `unix:/` without a second slash stands for `unix:///`,
-- and `tcp:` without two slashes for `tcp://`
abbrev pub rewritten : List ℕ → List ℕ
rewritten text =
    if not (starts_with nat_eq text (codes "unix://")) && starts_with nat_eq text (codes "unix:/")
    then codes "unix:///" ++ drop 6 text
    else (if not (starts_with nat_eq text (codes "tcp://"))
    && starts_with nat_eq text (codes "tcp:") then codes "tcp://" ++ drop 4 text else text)

abbrev pub no_url : EndpointParseError
no_url = record {}

-- a text that is not a URL
abbrev pub parsed : Result Parts ParseError → Result Parts EndpointError
parsed = broken_as (λ _. errors.Parse no_url)

-- the rules of every scheme, in order
abbrev pub check_common : Parts → Result (Unit {0}) EndpointError
check_common url =
    if not (length url.username == 0) || not (length url.password == 0) then Err errors.HasUserInfo
    else (if is_some url.query then Err errors.HasQuery
    else (if is_some url.fragment then Err errors.HasFragment else Ok tt))

-- a Unix socket has no host, and a path that begins with `/` and is longer
abbrev pub unix_rule : Parts → Result Endpoint EndpointError
unix_rule url =
    if has_host url then Err errors.UnixAuthorityNotAllowed
    else (if bytes_eq url.path (codes "/") || not (starts_with nat_eq url.path (codes "/"))
    then Err errors.UnixMissingPath else Ok (endpoints.Unix url.path))

-- four decimal numbers up to 255, without leading zeros, in the bits of their octets
abbrev pub ipv4_in : List ℕ → Option ℕ
ipv4_in text = option_map (from_be_bytes w32) (whole_value (read_ipv4 text))

abbrev pub address_in : Host (List ℕ) → Option EndpointHost
address_in (Domain text) = option_map hosts.V4 (ipv4_in text)
address_in (Ipv4 address) = Some (hosts.V4 (ipv4_bits address))
address_in (Ipv6 address) = Some (hosts.V6 (ipv6_bits address))

abbrev pub tcp_host_in : Parts → Option EndpointHost
tcp_host_in url = option_and_then address_in (nonempty_host url)

-- a TCP endpoint has an IP address, a port, and no path
abbrev pub tcp_after_host : Parts → Option EndpointHost → Option ℕ → Result Endpoint EndpointError
tcp_after_host url None port = Err errors.TcpHostNotIp
tcp_after_host url (Some host) None = Err errors.TcpMissingPort
tcp_after_host url (Some host) (Some port) =
    if not (length url.path == 0) && not (bytes_eq url.path (codes "/"))
    then Err errors.TcpUnexpectedPath else Ok (endpoints.Tcp host port)

abbrev pub tcp_rule : Parts → Result Endpoint EndpointError
tcp_rule url = tcp_after_host url (tcp_host_in url) url.port

abbrev pub scheme_rule : Parts → Result Endpoint EndpointError
scheme_rule url =
    if bytes_eq url.scheme (codes "unix") then unix_rule url
    else (if bytes_eq url.scheme (codes "tcp") then tcp_rule url else Err errors.InvalidScheme)

unfoldable pub endpoint_rule : List ℕ → Result Endpoint EndpointError
endpoint_rule text = do
  url ← parsed (parse_url None (rewritten text))
  done ← check_common url
  scheme_rule url
