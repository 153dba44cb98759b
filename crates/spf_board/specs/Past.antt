-- What was seen of which history.
use Rattle.std.specs.Prelude.{List, [], ◌∷◌, ◌++◌}
use Rattle.logbook.specs.Pages.{Book}
use Rattle.spf_board.specs.declared.entry.Entry.{Entry}

pub record Past (S : Type 0) : Type 0 where
  pub book : Book
  pub list : List (Entry S)

abbrev pub past : {S : Type 0} → Book → List (Entry S) → Past S
past book list = record { book = book; list = list }

-- with one more entry
abbrev pub added : {S : Type 0} → Past S → Entry S → Past S
added p e = past p.book (p.list ++ e ∷ [])
