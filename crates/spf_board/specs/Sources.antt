-- A source, and the updates of one reader.
use Rattle.std.specs.Prelude.{ℕ}
use Rattle.logbook.specs.Pages.{Book}
use Rattle.spf_board.specs.Passes.{PassView}
use Rattle.spf_system.specs.Marks.{Mark}

-- the board that its passes read, and the cell that says whether it is closed
pub record Source : Type 0 where
  pub board : Book
  pub cell : ℕ

-- the cell, the pass of the updates, and the revision that is marked as seen
pub record Updates (S : Type 0) : Type 0 where
  pub cell : ℕ
  pub pass : PassView S Mark
  pub marked : ℕ
