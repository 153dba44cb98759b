use Rattle.std.proofs.Common.{ℕ, List, Some, ap, sym, ◌∙◌, subst}
use Rattle.std.specs.Option.{option_map}
use Rattle.std.specs.Int.{w32, from_be_bytes}
use Rattle.std.specs.Net.Addr.{ipv4_bits, ipv4_octets}
use Rattle.std.specs.Net.Grammar.{IsDotted}
use Rattle.std.specs.declared.net.ipv4_addr.Ipv4Addr.{Ipv4Addr}
use Rattle.spf_link.proofs.Ipv4.{whole_ipv4, no_ipv4}
use Rattle.spf_link.proofs.endpoint.ipv4_of.Goals as goal

pub returns-in-Ok : goal.returns-in-Ok
unfolding ipv4_bits
returns-in-Ok c =
    let octets = ipv4_octets c.in-Ok.address in
    let dotted =
    subst (λ (t : List ℕ). IsDotted t octets) c.as_bytes.ensures.value c.in-Ok.ensures in
    ap Some c.to_bits.ensures
    ∙ sym (ap (option_map (from_be_bytes w32)) (whole_ipv4 c.args.text.now octets dotted))

pub returns-in-Err : goal.returns-in-Err
returns-in-Err c =
    sym (ap (option_map (from_be_bytes w32)) (no_ipv4 c.args.text.now (λ octets dotted.
    let address : Ipv4Addr = record { octets = octets } in
    c.in-Err.ensures address
    (subst (λ (t : List ℕ). IsDotted t octets) (sym c.as_bytes.ensures.value) dotted))))
