use Rattle.std.proofs.Common.{◌≡◌, ◌∷◌, [], ap, sym, ◌∙◌, subst}
use Rattle.spf_board.specs.declared.entry.Entry.TheVariants as entry
use Rattle.spf_board.specs.Lists.{steps_of}
use Rattle.spf_board.proofs.Prefixes.{first_may, first_steps}
use Rattle.spf_board.proofs.Keeping.{opens}
use Rattle.spf_board.proofs.opening.blank.Goals as goal

pub new-requires : goal.new-requires
new-requires g c = first_may g.K.Kind.legal c.args.step c.requires

pub new-requires-2-clause-rule : goal.new-requires-2-clause-rule
new-requires-2-clause-rule g c =
    let r = g.K.Replay.replays in
    let s = c.args.step in
    let front = c.front.result in
    let one : front.list ≡ entry.Step s ∷ [] =
    ap (λ p. p.list) c.front.ensures.same ∙ c.in-Some.ensures in
    let shown : c.opening.result ≡ g.K.Replay.first s =
    c.opening.ensures ∙ ap g.K.Replay.first c.in_ok-copy_step.ensures in
    let stands : r (s ∷ []) (g.K.Replay.first s) = g.met.K.Replay.replays_first s c.requires in
    let moved : r (steps_of front.list) (g.K.Replay.first s) =
    subst (λ l. r l (g.K.Replay.first s)) (sym (first_steps front.list s one)) stands in
    opens r (λ (p : _ × _). p.0) (λ p. p.1) (c.opening.result, front)
    (subst (λ x. r (steps_of front.list) x) (sym shown) moved)
