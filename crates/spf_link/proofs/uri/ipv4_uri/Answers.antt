use Rattle.std.proofs.Common.{◌++◌, ◌∷◌, [], List, ℕ, ap, sym, ◌∙◌, append_assoc, codes, decimal}
use Rattle.std.specs.Int.{w32, to_be_bytes}
use Rattle.std.specs.Net.Addr.{IsIpv4OfBits}
use Rattle.std.specs.Net.Text.{ipv4_text}
use Rattle.spf_link.proofs.uri.ipv4_uri.Goals as goal

pub returns : goal.returns
unfolding IsIpv4OfBits
returns c =
    c.in_ok-format.ensures.ok
    ∙ ap (λ (octets : List ℕ). codes "http://" ++ (ipv4_text octets ++ 58 ∷ decimal c.args.port))
    c.from_bits-address.ensures
    ∙ ap (λ (rest : List ℕ). codes "http://" ++ rest)
    (sym (append_assoc (ipv4_text (to_be_bytes w32 c.args.bits)) (58 ∷ []) (decimal c.args.port)))
