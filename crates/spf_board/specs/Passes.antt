-- What a pass has seen, and what a read does to it.
use Rattle.std.specs.Prelude.{◌≡◌, ℕ, ◌+◌, ◌⊎◌, true, List, Option, length}
use mathlib.Core.List.{IsPrefix}
use Rattle.logbook.specs.Pages.{Book}
use Rattle.spf_io.specs.Outside.{Rose}
use Rattle.spf_board.specs.declared.entry.Entry.{Entry}
use Rattle.spf_board.specs.Lists.{steps_of, is_ended, IsBoardList}
use Rattle.spf_board.specs.Past.{Past}
use Rattle.spf_board.specs.declared.rule.Place.{Place}

-- what a pass remembers
pub record Remembered (S : Type 0) : Type 0 where
  -- its board
  pub book : Book
  -- what it has seen, which its kept snapshot stands for
  pub seen : List (Entry S)
  -- the longest board list that it has entered
  pub entered : List (Entry S)
  -- how often it was not let in
  pub missed : ℕ

abbrev pub remembered : {S : Type 0} → Past S → Past S → ℕ → Remembered S
remembered seen entered missed = record {
  book = seen.book;
  seen = seen.list;
  entered = entered.list;
  missed = missed;
}

-- the same with the number of its enter steps, and how many entries were posted at the last of them
pub record Passed (S : Type 0) : Type 0 where
  pub book : Book
  pub seen : List (Entry S)
  pub entered : List (Entry S)
  pub missed : ℕ
  pub enters : ℕ
  pub entries : ℕ

abbrev pub passed : {S : Type 0} → Remembered S → Place → Passed S
passed m v = record {
  book = m.book;
  seen = m.seen;
  entered = m.entered;
  missed = m.missed;
  enters = v.enters;
  entries = v.entries;
}

-- what contracts see of a pass of a source: the same, and which mark it knows of the closed cell
pub record PassView (S C : Type 0) : Type 0 where
  pub book : Book
  pub seen : List (Entry S)
  pub entered : List (Entry S)
  pub missed : ℕ
  pub enters : ℕ
  pub entries : ℕ
  pub closed : Option C

abbrev pub pass_view : {S C : Type 0} → Remembered S → Place → Option C → PassView S C
pass_view m v closed = record {
  book = m.book;
  seen = m.seen;
  entered = m.entered;
  missed = m.missed;
  enters = v.enters;
  entries = v.entries;
  closed = closed;
}

-- what it has read
abbrev pub read_of : {S C : Type 0} → PassView S C → Passed S
read_of p = record {
  book = p.book;
  seen = p.seen;
  entered = p.entered;
  missed = p.missed;
  enters = p.enters;
  entries = p.entries;
}

-- it remembers no less than before, of the same board
pub record KeepsAll {S : Type 0} (old new : Remembered S) : Type 0 where
  pub book : new.book ≡ old.book
  pub seen : IsPrefix old.seen new.seen
  pub entered : IsPrefix old.entered new.entered

-- something was found in the snapshot of a board list
pub record Finds {S X F : Type 0} (legal : List S → Type 0) (replays : List S → X → Type 0)
    (finds : X → F → Type 0) (list : List (Entry S)) (found : F) : Type 0 where
  pub shown : X
  pub stands : replays (steps_of list) shown
  pub board : IsBoardList legal list
  pub is_found : finds shown found

module _ {S : Type 0} (legal : List S → Type 0) where
  -- A read that is kept: the pass entered, and has now seen what it entered, which is all that was
  -- posted then; or it missed, and has seen what it had seen. Nothing is seen after an End.
  pub record Renews (old new : Passed S) : Type 0 where
    pub seen : IsPrefix old.seen new.seen
    pub board : IsBoardList legal new.seen
    pub cause : ((new.enters ≡ old.enters + 1) × (new.missed ≡ old.missed)
        × (new.seen ≡ new.entered) × (length new.entered ≡ new.entries))
        ⊎ (Rose old.missed new.missed × (new.seen ≡ old.seen))
    pub final : is_ended old.seen ≡ true → new.seen ≡ old.seen

  -- A read that keeps nothing: something was found in the snapshot of the list that was entered,
  -- which is all that was posted then; or the pass missed, and found it in that of what it has seen.
  pub record Peeks {X F : Type 0} (replays : List S → X → Type 0) (finds : X → F → Type 0)
      (old new : Passed S) (found : F) : Type 0 where
    pub seen : new.seen ≡ old.seen
    pub cause : ((new.enters ≡ old.enters + 1) × (new.missed ≡ old.missed)
        × IsPrefix old.seen new.entered × Finds legal replays finds new.entered found
        × (length new.entered ≡ new.entries))
        ⊎ (Rose old.missed new.missed × Finds legal replays finds new.seen found)
