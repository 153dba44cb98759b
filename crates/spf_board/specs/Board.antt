-- The rule of a board: the snapshot stands for its history, and each view that is bound is bound to
-- that history.
use Rattle.std.specs.Prelude.{◌≡◌, ℕ, ◌+◌, true, false, List, length}
use mathlib.Core.Option.{some}
use lib.ListN.{get_elem?}
use Rattle.logbook.specs.Pages.{Book}
use Rattle.spf_board.specs.Lists.{steps_of}
use Rattle.spf_board.specs.Past.{Past}
use Rattle.spf_board.specs.declared.rule.Place.{Place}

abbrev pub unbound : Place
unbound = record {
  bound = false;
  enters = 0;
  entries = 0;
  number = 0;
  log_name = 0;
  cells_name = 0;
}

abbrev pub book_of : Place → Book
book_of v = record { number = v.number; log_name = v.log_name; cells_name = v.cells_name }

abbrev pub bound_to : ℕ → ℕ → Book → Place
bound_to enters entries b = record {
  bound = true;
  enters = enters;
  entries = entries;
  number = b.number;
  log_name = b.log_name;
  cells_name = b.cells_name;
}

pub record IsBoundTo (v : Place) (b : Book) : Type 0 where
  pub bound : v.bound ≡ true
  pub book : book_of v ≡ b

-- what the writer passes on, and what a reader then knows
abbrev pub note_of : Place → Place
note_of v = record v { enters = 0 }

abbrev pub informed : Place → Place → Place
informed v w = record w { enters = v.enters; entries = v.entries }

module _ {S X : Type 0} (replays : List S → X → Type 0) where
  -- the rule
  pub record Keeps (shown : X) (front : Past S) (views : List Place) : Type 0 where
    pub stands : replays (steps_of front.list) shown
    pub bound : (seat : ℕ) (v : Place) → get_elem? views seat ≡ some v → v.bound ≡ true
        → book_of v ≡ front.book

  -- a reader takes what is posted
  pub record Enters (v : Place) (shown : X) (front : Past S) (w : Place) : Type 0 where
    pub once : w.enters ≡ v.enters + 1
    pub all : w.entries ≡ length front.list
    pub stands : replays (steps_of front.list) shown
    pub bound : IsBoundTo w front.book
    pub same : v.bound ≡ true → book_of v ≡ front.book

  -- the writer posts
  pub record Posts (shown : X) (front : Past S) (w : Place) : Type 0 where
    pub stands : replays (steps_of front.list) shown
    pub bound : IsBoundTo w front.book
