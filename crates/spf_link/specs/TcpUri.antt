-- The URI of a TCP endpoint.
use Rattle.std.specs.Prelude.{ℕ, List, ◌++◌, codes, decimal}
use Rattle.std.specs.Int.{w32, w128, to_be_bytes}
use Rattle.std.specs.Net.Addr.{segments_of}
use Rattle.std.specs.Net.Text.{ipv4_text, ipv6_text}
use Rattle.spf_link.specs.declared.endpoint.EndpointHost.{EndpointHost}
pub use Rattle.spf_link.specs.declared.endpoint.EndpointHost.TheVariants.{V4, V6}

-- four decimal numbers, or an address in brackets in the form of RFC 5952
abbrev pub host_text : EndpointHost → List ℕ
host_text (V4 bits) = ipv4_text (to_be_bytes w32 bits)
host_text (V6 bits) = codes "[" ++ (ipv6_text (segments_of (to_be_bytes w128 bits)) ++ codes "]")

abbrev pub tcp_uri : EndpointHost → ℕ → List ℕ
tcp_uri host port = codes "http://" ++ (host_text host ++ codes ":" ++ decimal port)
