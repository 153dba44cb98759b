-- The three parts in which an entry is replaced.
use Rattle.std.specs.Prelude.{◌≡◌, ℕ, ◌≤◌, ◌<◌, ◌⊎◌, false, List, length, Option, Some, Ok}
use Rattle.std.specs.Option.{option_map_or}
use Rattle.spf_disk.specs.declared.generation.Entry.{Entry}
use Rattle.spf_disk.specs.declared.slot.Slot.{Slot}
use Rattle.spf_disk.specs.Image.{Image}
use Rattle.spf_disk.specs.Slots.{other_slot, gate_number, gate_of, held_by}
use Rattle.spf_disk.specs.Standing.{Standing, Closed, Broken, Holds, standing, number_of, latest}
use Rattle.spf_disk.specs.Standing.{is_open}

-- Nothing but the gate of the slot may differ.
pub record ButGate (s : Slot) (old new : Image) : Type 0 where
  pub first : new.first ≡ old.first
  pub second : new.second ≡ old.second
  pub other_gate : gate_of new (other_slot s) ≡ gate_of old (other_slot s)

-- The gate of the slot is this octet, and nothing else is changed.
pub record GateIs (s : Slot) (octet : ℕ) (old new : Image) : Type 0 where
  pub but_gate : ButGate s old new
  pub gate : gate_of new s ≡ Some octet
  pub no_shorter : length old.gates ≤ length new.gates

-- A slot does not hold the latest entry: it is closed, or a greater number stands in the other.
abbrev pub IsPassed : Standing → Standing → Type 0
IsPassed Closed Broken = ⊥
IsPassed Closed other = Unit {0}
IsPassed (Holds e) (Holds f) = number_of e < number_of f
IsPassed s other = ⊥

-- An entry is newer than what the other slot holds.
abbrev pub IsNewer : Standing → Option Entry → Type 0
IsNewer Closed (Some e) = Unit {0}
IsNewer (Holds f) (Some e) = number_of f < number_of e
IsNewer _ _ = ⊥

-- The file of the gates reaches up to the gate of the slot, so that it can be written.
abbrev pub HasRoom : Slot → Image → Type 0
HasRoom s image = gate_number s ≤ length image.gates

abbrev pub IsClosed : Slot → Image → Type 0
IsClosed s image = is_open (gate_of image s) ≡ false

-- The slot is closed, and what the other holds is as it was.
pub record IsShut (s : Slot) (old new : Image) : Type 0 where
  pub other_gate : gate_of new (other_slot s) ≡ gate_of old (other_slot s)
  pub shut : IsClosed s new
  pub other : standing new (other_slot s) ≡ standing old (other_slot s)
  pub room : HasRoom s new

-- The slot holds these bytes behind its closed gate.
pub record IsStored (s : Slot) (bytes : List ℕ) (old new : Image) : Type 0 where
  pub shut : IsShut s old new
  pub held : held_by new s ≡ bytes

-- The slot holds the entry, and what the other holds is as it was.
pub record IsReplaced (s : Slot) (entry : Option Entry) (old new : Image) : Type 0 where
  pub latest : latest new ≡ Ok entry
  pub other : standing new (other_slot s) ≡ standing old (other_slot s)
  pub other_gate : gate_of new (other_slot s) ≡ gate_of old (other_slot s)
  pub holds : standing new s ≡ option_map_or Holds entry Broken
  pub open_gate : gate_of new s ≡ Some 1
  pub no_shorter : gate_number s < length new.gates

-- a crash leaves the entry from before, or the new one
abbrev pub IsBeforeOrAfter : Image → Option Entry → Image → Type 0
IsBeforeOrAfter old entry c = (latest c ≡ latest old) ⊎ (latest c ≡ Ok entry)
