use Rattle.std.proofs.Common.{◌∙◌, ap, refl, sym, ◌++◌, List, ℕ, append_assoc, arith}
use Rattle.spf_view.proofs.FollowLemmas.{grows_trans}
use Rattle.spf_watch.proofs.watching.put_rest.Goals as goal

pub loop-out-preserved : goal.loop-out-preserved
loop-out-preserved g c =
    let before = c.loop-out.invariant in
    let put = c.in_ok-put.ensures.text.text refl in
    let frames = put.1 ∙ c.as_slice.ensures.value in
    let rest = c.in_ok-next.ensures.frames.next
    ∙ ap (λ (l : List ℕ). l ++ c.next.new.self) (sym frames) in (
      omega (arith, before.0, c.in_ok-put.ensures.cause.writes_later),
      (
        before.1.0 ++ put.0,
        grows_trans _ _ _ _ _ before.1.1 put.2,
        before.1.2 ∙ ap (λ (l : List ℕ). before.1.0 ++ l) rest
            ∙ sym (append_assoc before.1.0 put.0 c.next.new.self),
      ),
    )
