use Rattle.std.proofs.Common.{sym, ◌∙◌}
use Rattle.spf_jwt.specs.Selected.{has_hint}
use Rattle.spf_jwt.proofs.Found.{found_at, found_none}
use Rattle.spf_jwt.proofs.selected.first_with_hint.Goals as goal

pub returns-in-Some : goal.returns-in-Some
returns-in-Some c =
    found_at (λ s. has_hint c.args.hint.now s) c.args.svids.items c.in-Some.index
    c.swap_remove.result
    (sym (rw c.as_slice.ensures.value at c.hint_index.ensures) ∙ c.in-Some.is)
    c.swap_remove.ensures.value

pub returns : goal.returns
returns c =
    found_none (λ s. has_hint c.args.hint.now s) c.args.svids.items
    (sym (rw c.as_slice.ensures.value at c.hint_index.ensures) ∙ c.in-None.is)
