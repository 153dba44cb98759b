use Rattle.std.proofs.Common.{◌++◌, ◌∷◌, [], List, ℕ, ap, sym, ◌∙◌, append_assoc, codes, decimal}
use Rattle.std.specs.Int.{w128, to_be_bytes}
use Rattle.std.specs.Net.Addr.{IsIpv6OfBits, segments_of}
use Rattle.std.specs.Net.Text.{ipv6_text}
use Rattle.spf_link.proofs.uri.ipv6_uri.Goals as goal

pub returns : goal.returns
unfolding IsIpv6OfBits
returns c =
    let text = ipv6_text (segments_of (to_be_bytes w128 c.args.bits)) in
    c.in_ok-format.ensures.ok
    ∙ ap (λ (segments : List ℕ). codes "http://"
    ++ 91 ∷ (ipv6_text segments ++ 93 ∷ (58 ∷ decimal c.args.port))) c.from_bits-address.ensures
    ∙ ap (λ (rest : List ℕ). codes "http://" ++ 91 ∷ rest)
    (sym (append_assoc text (93 ∷ []) (58 ∷ decimal c.args.port))
    ∙ sym (append_assoc (text ++ 93 ∷ []) (58 ∷ []) (decimal c.args.port)))
