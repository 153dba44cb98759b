-- What the calls of a source do to the pass that they are lent, whatever its steps are.
use Rattle.std.specs.Prelude.{◌≡◌, ◌⊎◌, ℕ, Bool, false, List, Some, None}
use Rattle.std.specs.Prelude.{IfSome, IsSomeAnd, is_some}
use mathlib.Core.List.{IsPrefix}
use Rattle.spf_board.specs.Passes.{PassView, Peeks, Renews, read_of}
use Rattle.spf_system.specs.Marks.{Mark, mark_by}
use Rattle.spf_system.specs.declared.maker.Maker.TheVariants as makers
use Rattle.spf_board.specs.declared.entry.Entry.{Entry}
use Rattle.spf_board.specs.Sources.{Source, Updates}

-- A pass that learns whether the source of this cell is closed: it knows a mark of the cell, or
-- none, and all else of it is as before.
pub record LooksAt {S : Type 0} (cell : ℕ) (old new : PassView S Mark) : Type 0 where
  pub read : new ≡ record old { closed = new.closed }
  pub mark : IfSome new.closed (λ known. known.cell ≡ cell)

-- a caller closed this cell, which the pass knows by a note
abbrev pub IsClosedByCaller : {S : Type 0} → ℕ → PassView S Mark → Type 0
IsClosedByCaller cell pass = pass.closed ≡ Some (mark_by cell makers.Caller)

-- A state says that the source of this cell is closed exactly where a mark of it is known.
pub record SaysClosed {S : Type 0} (cell : ℕ) (pass : PassView S Mark) (closed : Bool)
    : Type 0 where
  pub mark : IfSome pass.closed (λ known. known.cell ≡ cell)
  pub exact : closed ≡ is_some pass.closed

-- a pass that has seen no less than before, of the same board
pub record SeesNoLess {S : Type 0} (old new : PassView S Mark) : Type 0 where
  pub book : new.book ≡ old.book
  pub seen : IsPrefix old.seen new.seen
  pub entered : IsPrefix old.entered new.entered

-- Whether a source is healthy: where a mark of its cell is known it is not, and nothing is read;
-- otherwise what is published is usable, which the pass does not keep.
abbrev pub IsHealthyBy : {S X : Type 0} → (List S → Type 0) → (List S → X → Type 0) → (X → Bool)
    → ℕ → PassView S Mark → PassView S Mark → Bool → Type 0
IsHealthyBy legal replays usable cell old new healthy =
    ((healthy ≡ false) × IsSomeAnd new.closed (λ known. known.cell ≡ cell)
    × (new ≡ record old { closed = new.closed }))
    ⊎ ((new.closed ≡ None)
    × Peeks legal replays (λ shown found. found ≡ usable shown)
    (read_of old) (read_of new) healthy)

-- a pass that has read, once it had seen no less than before
pub record ReadsOnBy {S : Type 0} (legal : List S → Type 0) (old new : PassView S Mark)
    : Type 0 where
  pub between : PassView S Mark
  pub seen : SeesNoLess old between
  pub renews : Renews legal (read_of between) (read_of new)

-- a pass that has read, once it had seen just this
pub record ReadsFromBy {S : Type 0} (legal : List S → Type 0) (seen : List (Entry S))
    (new : PassView S Mark) : Type 0 where
  pub taken : PassView S Mark
  pub begun : taken.seen ≡ seen
  pub renews : Renews legal (read_of taken) (read_of new)

-- Updates of a source: their pass is of its board and has seen at least what the giver has seen,
-- and the revision of what it has read is marked as seen.
pub record FollowsBy {S : Type 0} (is_revision : PassView S Mark → ℕ → Type 0) (source : Source)
    (giver : PassView S Mark) (updates : Updates S) : Type 0 where
  pub cell : updates.cell ≡ source.cell
  pub board : updates.pass.book ≡ source.board
  pub seen : IsPrefix giver.seen updates.pass.seen
  pub marked : is_revision updates.pass updates.marked

-- What is marked where a wait ended without a revision: what was marked before, or the revision of
-- something that was read in the wait.
abbrev pub MarksOnBy : {S : Type 0} → (PassView S Mark → ℕ → Type 0) → PassView S Mark → ℕ
    → PassView S Mark → ℕ → Type 0
MarksOnBy {S} is_revision old was new marked =
    (marked ≡ was)
    ⊎ ((read : PassView S Mark) × SeesNoLess old read × is_revision read marked
    × SeesNoLess read new)
