-- What a reader finds in three files.
use Rattle.std.specs.Prelude.{ℕ, ◌==◌, nat_lt, Bool, false, if◌then◌else◌, List}
use Rattle.std.specs.Prelude.{Option, Some, None, Result, Ok, Err}
use Rattle.std.specs.Option.{option_map_or, option_and_then}
use Rattle.spf_disk.specs.declared.generation.Generation.{Generation}
use Rattle.spf_disk.specs.declared.generation.Entry.{Entry}
use Rattle.spf_disk.specs.declared.generation.Entry.TheVariants.{Withdrawn, Accepted}
use Rattle.spf_disk.specs.declared.open_error.OpenError.{OpenError}
use Rattle.spf_disk.specs.declared.open_error.OpenError.TheVariants.{Damaged}
use Rattle.spf_disk.specs.declared.slot.Slot.{Slot}
use Rattle.spf_disk.specs.declared.slot.Slot.TheVariants as slot
use Rattle.spf_disk.specs.Format.{entry_at}
use Rattle.spf_disk.specs.Image.{Image}
use Rattle.spf_disk.specs.Slots.{gate_of, held_by}

-- What a file is: its gate is closed, or it is open, and then it holds no entry or one.
pub data Standing : Type 0 where
  Closed : Standing
  Broken : Standing
  Holds : Entry → Standing

-- A gate is open exactly where its octet is 1; a missing octet is closed.
abbrev pub is_open : Option ℕ → Bool
is_open None = false
is_open (Some octet) = octet == 1

abbrev pub standing_of : Option ℕ → List ℕ → Standing
standing_of gate bytes =
    if is_open gate then option_map_or Holds (entry_at bytes) Broken else Closed

abbrev pub standing : Image → Slot → Standing
standing image s = standing_of (gate_of image s) (held_by image s)

abbrev pub number_of : Entry → ℕ
number_of (Withdrawn number) = number
number_of (Accepted g) = g.number

-- The entry of the open file with the greater number. Damaged where an open file holds no entry, or
-- both open files have the same number.
abbrev pub latest_of : Standing → Standing → Result (Option Entry) OpenError
latest_of Broken other = Err Damaged
latest_of Closed Closed = Ok None
latest_of Closed Broken = Err Damaged
latest_of Closed (Holds e) = Ok (Some e)
latest_of (Holds e) Closed = Ok (Some e)
latest_of (Holds e) Broken = Err Damaged
latest_of (Holds e) (Holds f) =
    if number_of e == number_of f then Err Damaged
    else Ok (Some (if nat_lt (number_of e) (number_of f) then f else e))

abbrev pub latest : Image → Result (Option Entry) OpenError
latest image = latest_of (standing image slot.First) (standing image slot.Second)

-- what a reader takes from an entry: nothing from a withdrawal
abbrev pub generation_in : Entry → Option Generation
generation_in (Withdrawn number) = None
generation_in (Accepted g) = Some g

abbrev pub found_in : Result (Option Entry) OpenError → Result (Option Generation) OpenError
found_in (Err e) = Err e
found_in (Ok entry) = Ok (option_and_then generation_in entry)

-- Found: what a reader finds
abbrev pub found : Image → Result (Option Generation) OpenError
found image = found_in (latest image)
