use Rattle.std.proofs.Common.{◌≡◌, ◌∙◌, ap, ◌++◌, ◌∷◌, [], rules}
use Rattle.spf_api.specs.Layout.{context_payload}
use Rattle.spf_watch.proofs.GeneratedLemmas.{item_put, payload_is}
use Rattle.spf_watch.proofs.generated.push_item.Goals as goal

pub returns : goal.returns
returns c = λ parts.
    let octets =
    payload_is c.in_ok-item.item c.in_ok-payload.payload.items c.in_ok-payload.ensures
    ∙ ap context_payload (c.in_ok-item.ensures parts) in
    let put : c.extend_from_slice-2.new.self.items
    ≡ c.args.frames.now.items ++ 5 ∷ [] ++ _ ++ c.in_ok-payload.payload.items = search rules in
    put ∙ item_put c.args.variant c.args.generation c.args.frames.now.items
    c.in_ok-payload.payload.items octets
