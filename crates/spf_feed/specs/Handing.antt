-- What the turn of an event hands on, whatever the items of a session are.
use Rattle.std.specs.Prelude.{◌≡◌, ◌<◌, Bool, true, false, List, [], ◌∷◌, length, Option, None}
use Rattle.std.specs.Prelude.{Some, Result, Ok, Err, if◌then◌else◌}
use Rattle.std.specs.Option.{option_to_list}
use Rattle.spf_view.specs.Steps.{Step}
use Rattle.spf_view.specs.Standing.{Kept, is_change}
use Rattle.spf_view.specs.Keeping.{kept_with_any}
use Rattle.spf_view.specs.Sessions.{Grows, GrowsUpTo}
use Rattle.spf_feed.specs.declared.following.Change.{Change}
use Rattle.spf_feed.specs.declared.following.Change.TheVariants as change

-- the list is handed on, or a beginning of it where memory runs out
abbrev pub HandsOn : {X T E : Type 0} → Option (List X) → Option (List X) → Result T E → List X
    → Type 0
HandsOn old new (Ok done) more = Grows old new more
HandsOn old new (Err e) more = GrowsUpTo old new more true

-- what a step does to what is kept, where anything is
abbrev pub change_of : {M L D : Type 0} → (M → M → Bool) → Option (Kept M D) → Step M L D → Change
change_of same None step = change.Opened
change_of same (Some kept) step =
    if is_change same kept.view step then change.Changed else change.Unchanged

abbrev pub is_changed : Change → Bool
is_changed change.Opened = true
is_changed change.Changed = true
is_changed change.Unchanged = false

-- an update is recorded where something was visible before it and something else is now
abbrev pub update_of : {R : Type 0} → R → Change → List R
update_of update change.Opened = []
update_of update change.Changed = update ∷ []
update_of update change.Unchanged = []

-- whether something else is visible after a step, where there is one
abbrev pub changes_any : {M L D : Type 0} → (M → M → Bool) → Option (Kept M D)
    → Option (Step M L D) → Bool
changes_any same kept None = false
changes_any same kept (Some step) = is_changed (change_of same kept step)

-- what a turn may change: what is kept, and what the
-- publisher and the recorder hold, where they say so
pub record TurnState (M L D R : Type 0) : Type 0 where
  pub kept : Option (Kept M D)
  pub steps : Option (List (Step M L D))
  pub records : Option (List R)

-- A turn with this step, where it has one, and these records went through.
pub record WentThrough {M L D R : Type 0} (same : M → M → Bool) (step : Option (Step M L D))
    (records : List R) (old new : TurnState M L D R) (changed : Bool) : Type 0 where
  pub steps_are : Grows old.steps new.steps (option_to_list step)
  pub records_are : Grows old.records new.records records
  pub kept_is : new.kept ≡ kept_with_any same old.kept step
  -- whether something else is visible
  pub changed_is : changed ≡ changes_any same old.kept step

-- Memory ran out over it: a record is handed on only after the step.
pub record StoppedShort {M L D R : Type 0} (step : Option (Step M L D)) (records : List R)
    (old new : TurnState M L D R) : Type 0 where
  pub steps_are : GrowsUpTo old.steps new.steps (option_to_list step) true
  pub records_are : GrowsUpTo old.records new.records records true
  pub steps_first : 0 < records_are.count → steps_are.count ≡ length (option_to_list step)

abbrev pub IsTaken : {M L D R E : Type 0} → (M → M → Bool) → Option (Step M L D) → List R
    → TurnState M L D R → TurnState M L D R → Result Bool E → Type 0
IsTaken same step records old new (Ok changed) = WentThrough same step records old new changed
IsTaken same step records old new (Err e) = StoppedShort step records old new
