-- What reading the three files finds.
use Rattle.std.specs.Prelude.{◌≡◌, ◌≢◌, ℕ, ◌≤◌, Bool, true, false, Option, Result, Ok}
use Rattle.std.specs.Prelude.{Err}
use Rattle.std.specs.Prelude.{IsErrOf}
use Rattle.std.specs.Option.{option_map_or}
use Rattle.spf_io.specs.Outside.{Rose}
use Rattle.spf_disk.specs.declared.generation.Entry.{Entry}
use Rattle.spf_disk.specs.declared.open_error.OpenError.{OpenError}
use Rattle.spf_disk.specs.declared.open_error.OpenError.TheVariants.{DiskFault, Damaged}
use Rattle.spf_disk.specs.declared.open_error.OpenError.TheVariants.{OutOfMemory}
use Rattle.spf_disk.specs.declared.scanning.Scanned.{Scanned}
use Rattle.spf_disk.specs.declared.slot.Slot.{Slot}
use Rattle.spf_disk.specs.declared.slot.Slot.TheVariants as slot
use Rattle.spf_disk.specs.Image.{Image}
use Rattle.spf_disk.specs.Replacing.{IsPassed, HasRoom}
use Rattle.spf_disk.specs.Slots.{other_slot}
use Rattle.spf_disk.specs.Standing.{Standing, Closed, Broken, Holds, standing, latest}

-- the errors that do not follow from what the files hold
abbrev pub is_free : OpenError → Bool
is_free DiskFault = true
is_free Damaged = false
is_free OutOfMemory = true

-- the count never falls, and a fault of the disk comes only where it rose
pub record FaultHasCause {T : Type 0} (before now : ℕ) (result : Result T OpenError) : Type 0 where
  pub later : before ≤ now
  pub fault : IsErrOf result DiskFault → Rose before now

-- a file with this entry, or a closed one
abbrev pub held_as : Option Entry → Standing
held_as entry = option_map_or Holds entry Closed

-- how a file was read
abbrev pub ReadsAs : Standing → Result (Option Entry) OpenError → Type 0
ReadsAs s (Ok entry) = s ≡ held_as entry
ReadsAs s (Err Damaged) = s ≡ Broken
ReadsAs s (Err _) = Unit {0}

-- The next slot can be written: the latest entry stands in the other one.
pub record IsNext (next : Slot) (entry : Option Entry) (image : Image) : Type 0 where
  pub latest : latest image ≡ Ok entry
  pub other : standing image (other_slot next) ≡ held_as entry
  pub passed : IsPassed (standing image next) (standing image (other_slot next))
  pub room : HasRoom next image

-- the entry that a scan of two files says is the latest
abbrev pub entry_scanned : Result Scanned OpenError → Result (Option Entry) OpenError
entry_scanned (Ok s) = Ok s.entry
entry_scanned (Err e) = Err e

abbrev pub at_slot : Standing → Standing → Slot → Standing
at_slot first second slot.First = first
at_slot first second slot.Second = second

-- The latest entry stands in the slot other than the next one.
pub record IsChosen (first second : Standing) (s : Scanned) : Type 0 where
  pub other : at_slot first second (other_slot s.next) ≡ held_as s.entry
  pub passed : IsPassed (at_slot first second s.next) (at_slot first second (other_slot s.next))
  pub opened : s.next ≡ slot.Second → first ≢ Closed
