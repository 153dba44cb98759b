use Rattle.std.proofs.Common.{◌<◌, ℕ, [], Ok, length, sym, ◌∙◌, ap, arith}
use Rattle.std.specs.Option.{option_map}
use Rattle.std.proofs.lemmas.List.Elements.{All-from_get_or}
use Rattle.std.proofs.lemmas.Result.{err_from_is_err_and}
use Rattle.spf_der.specs.Value.{IsBytes}
use Rattle.spf_x509.proofs.Heads.{all_cut, is_left, none_cut, none_decide, none_given, none_left}
use Rattle.spf_x509.proofs.Heads.{one_cut, others_decide, parts_decide, read_is_chain}
use Rattle.spf_x509.proofs.Heads.{rest_refused, some_after, two_cut}
use Rattle.spf_x509.proofs.svid.X509Svid.parse.Goals as goal

pub returns-then-is_empty : goal.returns-then-is_empty
returns-then-is_empty c =
    none_decide _ _ _ []
    (all_cut _ _ _ (none_cut _) (none_left _ _ c.is_empty.ensures c.if-is_empty.true)) (omega arith)

pub returns-in_err-leaf : goal.returns-in_err-leaf
returns-in_err-leaf c =
    let p = err_from_is_err_and c.from_residual.result c.from_residual.ensures.1 in
    rw (p.1, p.2)
    (rest_refused _ _ _ _ [] c.in_err-leaf.field-0.0 (none_cut _)
    (is_left _ _ c.is_empty.ensures c.if-is_empty.false) (omega arith)
    c.in_err-leaf.ensures.gives)

pub of_parts-requires : goal.of_parts-requires
of_parts-requires c =
    let cut =
    one_cut _ _ _ (is_left _ _ c.is_empty.ensures c.if-is_empty.false) c.in_ok-leaf.ensures.gives in
    let whole = all_cut _ _ _ cut (none_left _ _ c.is_empty-2.ensures c.if-is_empty-2.true) in
    let octets : IsBytes c.args.chain.now =
    All-from_get_or (λ (b : ℕ). b < 256) c.args.chain.now 0
    (λ i lt. omega (arith, c.type_inv.chain i)) in
    read_is_chain _ _ octets whole

pub returns-then-is_empty-2 : goal.returns-then-is_empty-2
returns-then-is_empty-2 c =
    let cut =
    one_cut _ _ _ (is_left _ _ c.is_empty.ensures c.if-is_empty.false) c.in_ok-leaf.ensures.gives in
    let whole = all_cut _ _ _ cut (none_left _ _ c.is_empty-2.ensures c.if-is_empty-2.true) in
    let hint = option_map (λ t. t.now) c.args.hint in
    rw (parts_decide c.args.chain.now c.args.key.now hint _ whole) c.of_parts.ensures

pub returns-in_err-second : goal.returns-in_err-second
returns-in_err-second c =
    let cut =
    one_cut _ _ _ (is_left _ _ c.is_empty.ensures c.if-is_empty.false) c.in_ok-leaf.ensures.gives in
    let p = err_from_is_err_and c.from_residual-in_err-second.result
    c.from_residual-in_err-second.ensures.1 in
    rw (p.1, p.2)
    (rest_refused _ _ _ _ _ c.in_err-second.field-0.0 cut
    (is_left _ _ c.is_empty-2.ensures c.if-is_empty-2.false) (omega arith)
    c.in_err-second.ensures.gives)

pub of_parts-requires-then-is_empty-3 : goal.of_parts-requires-then-is_empty-3
of_parts-requires-then-is_empty-3 c =
    let cut =
    two_cut _ _ _ _ _ (is_left _ _ c.is_empty.ensures c.if-is_empty.false)
    c.in_ok-leaf.ensures.gives (is_left _ _ c.is_empty-2.ensures c.if-is_empty-2.false)
    c.in_ok-second.ensures.gives in
    let whole = all_cut _ _ _ cut (none_left _ _ c.is_empty-3.ensures c.if-is_empty-3.true) in
    let octets : IsBytes c.args.chain.now =
    All-from_get_or (λ (b : ℕ). b < 256) c.args.chain.now 0
    (λ i lt. omega (arith, c.type_inv.chain i)) in
    rw c.from_ref.ensures.value (read_is_chain _ _ octets whole)

pub returns-then-is_empty-3 : goal.returns-then-is_empty-3
returns-then-is_empty-3 c =
    let cut =
    two_cut _ _ _ _ _ (is_left _ _ c.is_empty.ensures c.if-is_empty.false)
    c.in_ok-leaf.ensures.gives (is_left _ _ c.is_empty-2.ensures c.if-is_empty-2.false)
    c.in_ok-second.ensures.gives in
    let whole = all_cut _ _ _ cut (none_left _ _ c.is_empty-3.ensures c.if-is_empty-3.true) in
    let hint = option_map (λ t. t.now) c.args.hint in
    rw (parts_decide c.args.chain.now c.args.key.now hint _ whole)
    (rw c.from_ref.ensures.value at c.of_parts-then-is_empty-3.ensures)

pub returns-in_err-parts : goal.returns-in_err-parts
returns-in_err-parts c =
    let cut =
    two_cut _ _ _ _ _ (is_left _ _ c.is_empty.ensures c.if-is_empty.false)
    c.in_ok-leaf.ensures.gives (is_left _ _ c.is_empty-2.ensures c.if-is_empty-2.false)
    c.in_ok-second.ensures.gives in
    let p = err_from_is_err_and c.from_residual-in_err-parts.result
    c.from_residual-in_err-parts.ensures.1 in
    rw (p.1, p.2)
    (none_given _ _ _ c.in_err-parts.field-0.0
    (rw (others_decide _ _ _ _ cut) c.in_err-parts.ensures))

pub unreachable-requires : goal.unreachable-requires
unreachable-requires c =
    let some = some_after _ _ _ _ c.in_ok-parts.ensures in
    omega (arith, some, ap length (sym c.deref.ensures.value) ∙ c.in_default.ensures.cases)

pub of_parts-requires-2 : goal.of_parts-requires-2
of_parts-requires-2 c =
    let cut =
    two_cut _ _ _ _ _ (is_left _ _ c.is_empty.ensures c.if-is_empty.false)
    c.in_ok-leaf.ensures.gives (is_left _ _ c.is_empty-2.ensures c.if-is_empty-2.false)
    c.in_ok-second.ensures.gives in
    let whole =
    others_decide _ _ _ _ cut ∙ c.in_ok-parts.ensures
    ∙ ap Ok (sym c.deref.ensures.value ∙ c.in-Some.ensures.cases.0) in
    let octets : IsBytes c.args.chain.now =
    All-from_get_or (λ (b : ℕ). b < 256) c.args.chain.now 0
    (λ i lt. omega (arith, c.type_inv.chain i)) in
    read_is_chain _ _ octets whole

pub returns : goal.returns
returns c =
    let cut =
    two_cut _ _ _ _ _ (is_left _ _ c.is_empty.ensures c.if-is_empty.false)
    c.in_ok-leaf.ensures.gives (is_left _ _ c.is_empty-2.ensures c.if-is_empty-2.false)
    c.in_ok-second.ensures.gives in
    let whole =
    others_decide _ _ _ _ cut ∙ c.in_ok-parts.ensures
    ∙ ap Ok (sym c.deref.ensures.value ∙ c.in-Some.ensures.cases.0) in
    let hint = option_map (λ t. t.now) c.args.hint in
    rw (parts_decide c.args.chain.now c.args.key.now hint _ whole) c.of_parts-2.ensures
