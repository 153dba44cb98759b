use Rattle.std.proofs.Common.{◌∙◌, ap, ◌++◌, List, ℕ}
use Rattle.spf_watch.proofs.GeneratedLemmas.{client_octets, put_client}
use Rattle.spf_watch.proofs.generated.push_ended.Goals as goal

pub returns : goal.returns
returns c =
    c.in_ok-extend_from_slice-2.ensures.items
    ∙ ap (λ (l : List ℕ). l ++ client_octets) c.in_ok-extend_from_slice.ensures.items
    ∙ put_client c.args.frames.now.items c.args.frame.now
