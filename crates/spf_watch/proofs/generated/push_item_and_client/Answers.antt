use Rattle.std.proofs.Common.{◌∙◌, ap, ◌++◌, List, ℕ}
use Rattle.spf_watch.specs.MadeSession.{item_frame}
use Rattle.spf_watch.proofs.GeneratedLemmas.{client_octets, put_client}
use Rattle.spf_watch.proofs.generated.push_item_and_client.Goals as goal

pub returns : goal.returns
returns c = λ parts.
    c.in_ok-extend_from_slice.ensures.items
    ∙ ap (λ (l : List ℕ). l ++ client_octets) (c.in_ok-push_item.ensures parts)
    ∙ put_client c.args.frames.now.items (item_frame c.args.variant c.args.generation)
