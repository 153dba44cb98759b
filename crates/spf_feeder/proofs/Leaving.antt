-- What a supervisor leaves.
use Rattle.std.proofs.Common.{◌≡◌, inl, inr, ap, ◌∙◌}
use Rattle.std.specs.Prelude.{◌⊎◌}
use Rattle.logbook.specs.Pages.{Book}
use Rattle.spf_board.specs.declared.entry.Entry.TheVariants as entry
use Rattle.spf_board.specs.Lists.{steps_of}
use Rattle.spf_board.specs.Past.{Past, added}
use Rattle.spf_board.proofs.Prefixes.{steps_end}
use Rattle.spf_feeder.specs.Boards.{numbers_of}

-- an End is not a step
pub same_steps : {S : Type 0} (new old : Past S) → (new ≡ added old entry.End) ⊎ (new ≡ old)
    → steps_of new.list ≡ steps_of old.list
same_steps {S} new old (inl ended) =
    ap (λ (p : Past S). steps_of p.list) ended ∙ steps_end old.list
same_steps {S} new old (inr same) = ap (λ (p : Past S). steps_of p.list) same

-- the numbers of a board name it
pub same_board : (a b : Book) → numbers_of a ≡ numbers_of b → a ≡ b
same_board a b same =
    let number : a.number ≡ b.number = cc in
    let log : a.log_name ≡ b.log_name = cc in
    let cells : a.cells_name ≡ b.cells_name = cc in
    λ i. record { number = number i; log_name = log i; cells_name = cells i }
