-- Board lists: the published steps, the oldest first, and
-- one End last where the history has ended.
use Rattle.std.specs.Prelude.{◌≡◌, Bool, true, false, List, [], ◌∷◌, ◌++◌}
use Rattle.spf_board.specs.declared.entry.Entry.{Entry}
use Rattle.spf_board.specs.declared.entry.Entry.TheVariants as entry

-- the steps
unfoldable pub steps_of : {S : Type 0} → List (Entry S) → List S
steps_of [] = []
steps_of (entry.Step s ∷ later) = s ∷ steps_of later
steps_of (entry.End ∷ later) = steps_of later

-- the list has an End
unfoldable pub is_ended : {S : Type 0} → List (Entry S) → Bool
is_ended [] = false
is_ended (entry.Step s ∷ later) = is_ended later
is_ended (entry.End ∷ later) = true

-- nothing follows an End
unfoldable pub EndsLast : {S : Type 0} → List (Entry S) → Type 0
EndsLast [] = Unit {0}
EndsLast (entry.Step s ∷ later) = EndsLast later
EndsLast (entry.End ∷ later) = later ≡ []

-- the steps are legal, and nothing follows an End
pub record IsBoardList {S : Type 0} (legal : List S → Type 0) (list : List (Entry S)) : Type 0 where
  pub steps : legal (steps_of list)
  pub ends : EndsLast list

-- an entry may come next: the list has not ended, and the steps are then legal
pub record MayFollow {S : Type 0} (legal : List S → Type 0) (list : List (Entry S)) (e : Entry S)
    : Type 0 where
  pub steps : legal (steps_of (list ++ e ∷ []))
  pub unended : is_ended list ≡ false
