use Rattle.std.proofs.Common.{◌≡◌, ◌∙◌}
use Rattle.std.proofs.lemmas.Result.{IfOk-weaker}
use Rattle.spf_der.specs.Written.{key_text}
use Rattle.spf_watch.specs.MadeSession.{roots_of, entry, first_key, ordered}
use Rattle.spf_watch.proofs.GeneratedLemmas.{entry_of_workload}
use Rattle.spf_watch.proofs.generated.entries.Goals as goal

pub returns : goal.returns
returns c = λ parts generation expiry.
    let p = c.args.parts.now in
    let v = c.args.variant in
    let bundle = c.as_slice-bundle.ensures ∙ c.in_ok-bundle.ensures parts generation expiry in
    let first : c.in_ok-first.first ≡ entry generation 0 (first_key v) (roots_of v generation) =
    entry_of_workload 0 generation p.first p.intermediate _ _ _ _ _ _ parts.first parts.intermediate
    expiry (c.first_key-first_key.ensures parts) bundle c.in_ok-first.ensures in
    let second : c.in_ok-second.second ≡ entry generation 1 (key_text 2) (roots_of v generation) =
    entry_of_workload 1 generation p.second p.intermediate _ _ _ _ _ _ parts.second
    parts.intermediate expiry (c.as_slice-second_key.ensures.value ∙ parts.second.key_is) bundle
    c.in_ok-second.ensures in
    let third : c.in_ok-third.third ≡ entry generation 2 (key_text 3) (roots_of v generation) =
    entry_of_workload 2 generation p.third p.intermediate _ _ _ _ _ _ parts.third parts.intermediate
    expiry (c.as_slice-third_key.ensures.value ∙ parts.third.key_is) bundle c.in_ok-third.ensures in
    IfOk-weaker c.in_order.result _ _ (λ l is. is ∙ (λ i. ordered v (first i) (second i) (third i)))
    c.in_order.ensures
