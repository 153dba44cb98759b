use Rattle.std.proofs.Common.{◌<◌, ℕ, [], ◌∷◌, ap, sym, ◌∙◌, Ok, arith}
use Rattle.std.proofs.lemmas.List.Elements.{All-from_get_or}
use Rattle.std.proofs.lemmas.Result.{err_from_is_err_and}
use Rattle.spf_der.specs.Value.{IsBytes}
use Rattle.spf_x509.proofs.Authorities.{all_taken, none_taken, octets_after, one_taken}
use Rattle.spf_x509.proofs.Authorities.{rest_decides, rest_fails, two_taken}
use Rattle.spf_x509.proofs.Heads.{is_left, none_left}
use Rattle.spf_x509.proofs.bundle.cut_authorities.Goals as goal

pub returns-then-is_empty : goal.returns-then-is_empty
returns-then-is_empty c =
    all_taken _ _ _ (none_taken _) (none_left _ _ c.is_empty.ensures c.if-is_empty.true)
    ∙ ap Ok (sym c.new.ensures)

pub returns-in_err-first : goal.returns-in_err-first
returns-in_err-first c =
    let p = err_from_is_err_and c.from_residual.result c.from_residual.ensures.1 in
    rw (p.1, p.2)
    (rest_fails _ _ [] c.in_err-first.field-0.0 (none_taken _)
    (is_left _ _ c.is_empty.ensures c.if-is_empty.false) c.in_err-first.ensures.gives)

pub returns-then-is_empty-2 : goal.returns-then-is_empty-2
returns-then-is_empty-2 c =
    let one =
    one_taken _ _ _ (is_left _ _ c.is_empty.ensures c.if-is_empty.false)
    c.in_ok-first.ensures.gives c.in_ok-first.ensures.shorter in
    all_taken _ _ _ one (none_left _ _ c.is_empty-2.ensures c.if-is_empty-2.true)
    ∙ ap Ok (sym c.one.ensures)

pub returns-in_err-second : goal.returns-in_err-second
returns-in_err-second c =
    let one =
    one_taken _ _ _ (is_left _ _ c.is_empty.ensures c.if-is_empty.false)
    c.in_ok-first.ensures.gives c.in_ok-first.ensures.shorter in
    let p =
    err_from_is_err_and c.from_residual-in_err-second.result
    c.from_residual-in_err-second.ensures.1 in
    rw (p.1, p.2)
    (rest_fails _ _ (c.in_ok-first.first ∷ []) c.in_err-second.field-0.0 one
    (is_left _ _ c.is_empty-2.ensures c.if-is_empty-2.false) c.in_err-second.ensures.gives)

pub returns-then-is_empty-3 : goal.returns-then-is_empty-3
returns-then-is_empty-3 c =
    let one =
    one_taken _ _ _ (is_left _ _ c.is_empty.ensures c.if-is_empty.false)
    c.in_ok-first.ensures.gives c.in_ok-first.ensures.shorter in
    let two =
    two_taken _ _ _ _ _ one (is_left _ _ c.is_empty-2.ensures c.if-is_empty-2.false)
    c.in_ok-second.ensures.gives c.in_ok-second.ensures.shorter in
    all_taken _ _ _ two (none_left _ _ c.is_empty-3.ensures c.if-is_empty-3.true)
    ∙ ap Ok (sym c.two-two.ensures)

pub returns : goal.returns
returns c =
    let one =
    one_taken _ _ _ (is_left _ _ c.is_empty.ensures c.if-is_empty.false)
    c.in_ok-first.ensures.gives c.in_ok-first.ensures.shorter in
    let two =
    two_taken _ _ _ _ _ one (is_left _ _ c.is_empty-2.ensures c.if-is_empty-2.false)
    c.in_ok-second.ensures.gives c.in_ok-second.ensures.shorter in
    let octets : IsBytes c.args.der.now =
    All-from_get_or (λ (b : ℕ). b < 256) c.args.der.now 0
    (λ i lt. omega (arith, c.type_inv.der i)) in
    let after =
    octets_after _ _ _ (octets_after _ _ _ octets c.in_ok-first.ensures.gives)
    c.in_ok-second.ensures.gives in
    rw (rest_decides _ _ (c.in_ok-first.first ∷ c.in_ok-second.second ∷ []) after two)
    (rw c.two-two.ensures at c.with_authorities.ensures)
