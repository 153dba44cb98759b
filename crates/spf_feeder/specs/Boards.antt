-- Boards by the numbers that name them.
use Rattle.std.specs.Prelude.{ℕ, List, [], ◌∷◌}
use Rattle.logbook.specs.Pages.{Book}

abbrev pub numbers_of : Book → List ℕ
numbers_of board = board.number ∷ board.log_name ∷ board.cells_name ∷ []
