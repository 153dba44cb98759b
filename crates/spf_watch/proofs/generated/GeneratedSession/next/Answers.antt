use Rattle.std.proofs.Common.{◌≡◌, ◌∙◌, sym, ap, suc, ◌-◌, ◌++◌, ◌%◌, List, ℕ, Some, true, arith}
use Rattle.std.proofs.Common.{subst}
use Rattle.spf_watch.specs.MadeSession.{frames_by, frames_from, next_seed}
use Rattle.spf_watch.specs.GeneratedParts.{Yields}
use Rattle.spf_watch.proofs.GeneratedLemmas.{close_is, yields_close, yields_operation}
use Rattle.spf_watch.proofs.generated.GeneratedSession.next.Goals as goal

pub returns-then-left-eq0-clause-frames : goal.returns-then-left-eq0-clause-frames
returns-then-left-eq0-clause-frames c =
    let s = c.self.inside in
    let frames =
    c.in_ok-extend_from_slice.ensures.items ∙ ap (λ (l : List ℕ). l ++ _) c.clear.ensures.items
    ∙ close_is in
    let none : c.in-Some.left ≡ 0 = c.if-left-eq0.true in
    yields_close c.args.self.now c.extend_from_slice.new.self.items s.left s.seed s.generation
    c.self.view_is (c.in-Some.is ∙ ap Some none) frames

pub returns-clause-frames : goal.returns-clause-frames
returns-clause-frames c =
    let s = c.self.inside in
    let left = c.in-Some.left in
    let generation = c.generation_after-generation.ensures in
    let more : left ≡ suc (left - 1) = omega (arith, c.if-left-eq0.false) in
    let frames =
    c.in_ok-push_operation.ensures c.self.invariant.0
    ∙ ap (λ (l : List ℕ). l
    ++ frames_by (next_seed s.seed % 8) c.generation_after-generation.result) c.clear.ensures.items
    ∙ ap (frames_by (next_seed s.seed % 8)) generation in
    let gives =
    yields_operation c.args.self.now c.push_operation.new.frames.items s.left left (left - 1) s.seed
    s.generation c.self.view_is c.in-Some.is more frames in
    subst (λ (g : ℕ).
    Yields true c.args.self.now (frames_from (left - 1) (next_seed s.seed) g)
    c.push_operation.new.frames.items) (sym generation) gives
