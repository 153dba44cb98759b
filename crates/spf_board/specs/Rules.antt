-- The rule of a history, and what a step of its scribe does.
use Rattle.std.specs.Prelude.{ℕ, ◌≡◌, ◌≢◌, ◌==◌, true, List, [], ◌∷◌, ◌++◌, length, MatchBool}
use Rattle.logbook.specs.Pages.{Cell, Step, View, Book, Named}
use Rattle.spf_board.specs.declared.entry.Entry.{Entry}
use Rattle.spf_board.specs.Lists.{IsBoardList}

-- The first word is the length of the history, which is legal once there is an entry.
-- A book has two words, of which this one leaves the second at 0.
pub record IsKept {S : Type 0} (legal : List S → Type 0) (cells : List Cell) (log : List (Entry S))
    : Type 0 where
  pub words : cells ≡ (length log, true) ∷ (0, true) ∷ []
  pub history : log ≢ [] → IsBoardList legal log

abbrev pub head_of : Book → Named
head_of b = record { tracked = true; key = 0; book = b }

-- the entry was added to all that had been seen; or the history was longer, and was seen
abbrev pub Adds : {S : Type 0} → (List S → Type 0) → Step (Entry S) → View (Entry S) ℕ → ℕ
    → View (Entry S) ℕ → Type 0
Adds legal s v found w =
    MatchBool (found == s.old)
    ((w.0 ≡ v.0 ++ s.ask ∷ []) × (w.0 ≢ [] → IsBoardList legal w.0))
    ((length w.0 ≡ found) × (w.0 ≢ [] → IsBoardList legal w.0))
