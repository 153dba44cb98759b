-- What is published.
use Rattle.spf_board.specs.declared.entry.Entry.{Entry}
use Rattle.spf_board.specs.declared.entry.Entry.TheVariants as entry
use Rattle.spf_board.specs.declared.posted.Change.{Change}
use Rattle.spf_board.specs.declared.posted.Change.TheVariants as change

-- the snapshot after a change; an End leaves it
abbrev pub changed : {S X : Type 0} → (X → S → X) → X → Change S → X
changed after shown (change.Step twice) = after shown twice.first
changed after shown change.End = shown

abbrev pub entry_of : {S : Type 0} → Change S → Entry S
entry_of (change.Step twice) = entry.Step twice.first
entry_of change.End = entry.End
