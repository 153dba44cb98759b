use Rattle.std.proofs.Common.{◌≡◌, ◌∙◌, sym, ap, ◌++◌, List, ℕ}
use Rattle.spf_watch.specs.MadeSession.{client_frames, frames_from, item_frame, moment_frame}
use Rattle.spf_watch.specs.declared.generated.Variant.TheVariants as variants
use Rattle.spf_watch.proofs.GeneratedLemmas.{client_is, moment_is}
use Rattle.spf_watch.proofs.generated.GeneratedSession.open.Goals as goal

pub returns-in-Ok : goal.returns-in-Ok
returns-in-Ok c =
    let item = item_frame variants.Plain 0 in
    let first =
    c.in_ok-extend_from_slice.ensures.items ∙ ap (λ (l : List ℕ). l ++ _) c.clear.ensures.items in
    let second = c.in_ok-extend_from_slice-2.ensures.items ∙ ap (λ (l : List ℕ). l ++ _) first in
    let third : c.push_item_and_client.new.frames.items ≡ _ =
    c.in-Ok.ensures c.in_ok-parts.ensures
    ∙ ap (λ (l : List ℕ). l ++ (item ++ client_frames)) second in
    let opening : c.push_item_and_client.new.frames.items
    ≡ moment_frame ++ client_frames ++ item ++ client_frames =
    third ∙ (λ i. moment_is i ++ client_is i ++ item ++ client_frames) in
    λ i. sym opening i ++ frames_from c.args.arguments.operations (sym c.from.ensures i) 0
