use Rattle.std.proofs.Common.{◌≡◌, ◌++◌, ◌∙◌, sym, ap, ℕ, List, length, take, drop, min, rules}
use Rattle.spf_watch.specs.Template.{after, before}
use Rattle.spf_watch.proofs.Cut.{certificate_cut, template_cut}
use Rattle.spf_watch.proofs.template.Template.new.Goals as goal

pub returns : goal.returns
returns c = λ expires at time size.
    let spec = c.args.spec.now in
    let text : List ℕ = c.as_slice.result.now in
    let cut = template_cut spec text c.args.offset
    (rw c.as_slice.ensures.value (c.in_ok-text.ensures.means (rw expires (search rules)))) expires
    at in
    let at_offset =
    c.min.ensures ∙ ap (λ (n : ℕ). min c.args.offset n) (c.len.ensures ∙ sym c.as_slice.ensures.len)
    ∙ cut.0 in
    let front : c.in_ok-from_slice.field-0.items ≡ before spec =
    c.in_ok-from_slice.ensures.items ∙ c.split_at.ensures.front
    ∙ ap (λ (n : ℕ). take n text) at_offset ∙ cut.1 in
    let rest : c.split_at.result.1.now ≡ drop c.args.offset text =
    c.split_at.ensures.back ∙ ap (λ (n : ℕ). drop n text) at_offset in
    let at_end = c.min-2.ensures ∙ ap (λ (l : List ℕ). min 15 (length l)) rest ∙ cut.2 in
    let back : c.in_ok-from_slice-2.field-0.items ≡ after spec =
    c.in_ok-from_slice-2.ensures.items ∙ c.split_at-2.ensures.back ∙ (λ i. drop (at_end i) (rest i))
    ∙ cut.3 in
    (λ i. front i ++ (time ++ back i)) ∙ sym (certificate_cut spec time size)
