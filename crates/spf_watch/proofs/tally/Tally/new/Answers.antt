use Rattle.std.proofs.Common.{sym, ap, ◌∙◌, ℕ, List}
use Rattle.spf_watch.specs.Tallied.{none_tallied, tally_of}
use Rattle.spf_watch.proofs.TallyLemmas.{tally_nothing}
use Rattle.spf_watch.proofs.tally.Tally.new.Goals as goal

pub invariant_of-result : goal.invariant_of-result
invariant_of-result c =
    ap tally_of c.new-2.ensures ∙ tally_nothing none_tallied
    ∙ ap (λ (l : List ℕ). record { revision = 0; withdrawn = 0; unfinished = l })
    (sym c.new.ensures.items)
