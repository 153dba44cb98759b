-- Why a wait ends without a revision, over reads one after another.
use Rattle.std.proofs.Common.{ℕ, List}
use Rattle.spf_board.specs.Passes.{PassView}
use Rattle.spf_system.specs.Marks.{Mark}
use Rattle.spf_board.proofs.Passing.{reads_later}
use Rattle.spf_board.specs.Passing.{SeesNoLess}
use Rattle.spf_board.specs.Showing.{HasClosedCauseBy, IfClosed, Showing, StaysBy}
use Rattle.spf_board.specs.Showing.{Told, ToldClosed, ToldMemory, ToldNoPlace, ToldOther}

-- more is known where the source is closed
if_closed : (told : Told) {P Q : Type 0} → (P → Q) → IfClosed told P → IfClosed told Q
if_closed ToldClosed more holds = more holds
if_closed ToldMemory more holds = tt
if_closed ToldNoPlace more holds = absurd holds
if_closed ToldOther more holds = absurd holds

module _ {S T E : Type 0} (showing : Showing S T E) (legal : List S → Type 0) where
  pub stays_later : (cell revision : ℕ) (old mid new : PassView S Mark) (e : E)
      → SeesNoLess old mid → StaysBy showing legal cell revision mid new e
      → StaysBy showing legal cell revision old new e
  stays_later cell revision old mid new e before stays =
      if_closed (showing.told e)
      (λ known. (known.0, known.1, reads_later legal old mid new before known.2)) stays

  pub cause_of : (cell revision : ℕ) (old new : PassView S Mark) (e : E)
      → StaysBy showing legal cell revision old new e → HasClosedCauseBy showing cell new e
  cause_of cell revision old new e stays =
      if_closed (showing.told e) (λ known. known.0) stays
