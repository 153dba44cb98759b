use Rattle.std.proofs.Common.{◌≢◌, [], ◌++◌, refl, sym, ◌∙◌, arith}
use Rattle.std.proofs.lemmas.List.{take-append-drop}
use Rattle.spf_io.proofs.Exact.{bytes_exact}
use Rattle.spf_x509.proofs.Starts.{other_head}
use Rattle.spf_x509.proofs.chain.past_head.Goals as goal

pub returns-then-eq : goal.returns-then-eq
returns-then-eq c =
    let some = c.in-Some-Some in
    let b = some.ensures.cases in
    let t = some.ensures'.cases in
    let same = (bytes_exact some.head.now some.start.now).0 (cc (c.if-eq.true, c.eq.ensures)) in (
      some.head.now,
      sym (take-append-drop 64 c.args.bytes.now) ∙ (λ i. sym b.0 i ++ sym b.1 i),
      sym (take-append-drop 64 c.args.text.now) ∙ (λ i. (sym t.0 ∙ sym same) i ++ sym t.1 i),
    )

pub returns-else-eq : goal.returns-else-eq
returns-else-eq c =
    let some = c.in-Some-Some in
    let b = some.ensures.cases in
    let t = some.ensures'.cases in
    let exact = bytes_exact some.head.now some.start.now in
    let other : some.head.now ≢ some.start.now =
    λ same. absurd (cc (exact.1 same, c.if-eq.false, c.eq.ensures)) in
    other_head 64 some.head.now some.start.now c.args.bytes.now c.args.text.now
    (omega (arith, t.2)) b.0 t.0 other

pub returns-in_default : goal.returns-in_default
returns-in_default c = ([], refl, refl)
