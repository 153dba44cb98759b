-- What the states and the errors of a kind of source say, and why its calls fail.
use Rattle.std.specs.Prelude.{◌≡◌, ◌≤◌, ℕ, ℤ, Bool, List, Result, Ok, Err}
use Rattle.spf_board.specs.Passes.{PassView}
use Rattle.spf_system.specs.Marks.{Mark}
use Rattle.spf_board.specs.declared.entry.Entry.{Entry}
use Rattle.spf_io.specs.Outside.{Rose}
use Rattle.spf_board.specs.Passing.{IsClosedByCaller, ReadsOnBy}

-- what an error tells: a closed source, memory that ran out, no place for a pass, or something else
pub data Told : Type 0 where
  ToldClosed : Told
  ToldMemory : Told
  ToldNoPlace : Told
  ToldOther : Told

pub record Showing (S T E : Type 0) : Type 1 where
  -- the state is that of a board list, and says whether the source is closed
  pub is_state : List (Entry S) → Bool → T → Type 0
  pub closed_of : T → Bool
  pub revision_of : T → ℕ
  pub told : E → Told
  -- the error of a shutdown that timed out, by its two moments
  pub timed_out : ℤ → ℤ → E

-- this holds where an error tells of a closed source; the only other one is out of memory
abbrev pub IfClosed : Told → Type 0 → Type 0
IfClosed ToldClosed holds = holds
IfClosed ToldMemory holds = Unit {0}
IfClosed ToldNoPlace holds = ⊥
IfClosed ToldOther holds = ⊥

-- The count of refused places never falls, and no place comes only where it rose; the only other
-- error is out of memory.
abbrev pub IsPlaceFault : Told → ℕ → ℕ → Type 0
IsPlaceFault ToldNoPlace before now = (before ≤ now) × Rose before now
IsPlaceFault ToldMemory before now = before ≤ now
IsPlaceFault ToldClosed before now = ⊥
IsPlaceFault ToldOther before now = ⊥

module _ {S T E : Type 0} (showing : Showing S T E) where
  -- Why a call refuses without a read: a caller closed the cell, or memory ran out.
  abbrev pub HasClosedCauseBy : ℕ → PassView S Mark → E → Type 0
  HasClosedCauseBy cell pass e = IfClosed (showing.told e) (IsClosedByCaller cell pass)

  -- the revision of the state that a pass has read
  abbrev pub IsRevisionBy : PassView S Mark → ℕ → Type 0
  IsRevisionBy pass revision =
      (state : T) × showing.is_state pass.seen (showing.closed_of state) state
      × (revision ≡ showing.revision_of state)

  -- Why a wait for another revision than this one ends without it: a caller closed the cell, and
  -- this one was read even so; or memory ran out.
  abbrev pub StaysBy : (List S → Type 0) → ℕ → ℕ → PassView S Mark → PassView S Mark → E → Type 0
  StaysBy legal cell revision old new e = IfClosed (showing.told e)
      (IsClosedByCaller cell new × IsRevisionBy new revision × ReadsOnBy legal old new)

  -- why a pass was given no place
  abbrev pub HasPlaceCauseBy : {P : Type 0} → ℕ → ℕ → Result P E → Type 0
  HasPlaceCauseBy before now (Ok p) = before ≤ now
  HasPlaceCauseBy before now (Err e) = IsPlaceFault (showing.told e) before now
