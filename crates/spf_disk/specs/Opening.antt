-- What opening the files finds.
use Rattle.std.specs.Prelude.{◌≡◌, ℕ, Bool, Option, Result, Ok, Err}
use Rattle.std.specs.Option.{option_map_or}
use Rattle.spf_disk.specs.declared.generation.Entry.{Entry}
use Rattle.spf_disk.specs.declared.open_error.OpenError.{OpenError}
use Rattle.spf_disk.specs.declared.open_error.OpenError.TheVariants.{Damaged}
use Rattle.spf_disk.specs.declared.opening.Opened.{Opened}
use Rattle.spf_disk.specs.declared.slot.Slot.{Slot}
use Rattle.spf_disk.specs.declared.slot.Slot.TheVariants as slot
use Rattle.spf_disk.specs.Image.{Image}
use Rattle.spf_disk.specs.Scanning.{IsNext}
use Rattle.spf_disk.specs.Slots.{gate_of, other_slot}
use Rattle.spf_disk.specs.Standing.{is_open, number_of, latest}

-- The number is that of the latest entry, or 0, and the next slot can be written.
pub record IsOpened (image : Image) (opened : Opened) : Type 0 where
  pub entry : Option Entry
  pub is_next : IsNext opened.next entry image
  pub number : opened.number ≡ option_map_or number_of entry 0
  pub next_gate : opened.next_is_open ≡ is_open (gate_of image opened.next)
  pub other_gate : opened.other_is_open ≡ is_open (gate_of image (other_slot opened.next))

-- It is opened, or damaged; where the disk or memory fails nothing is said.
abbrev pub Opens : Image → Result Opened OpenError → Type 0
Opens image (Ok opened) = IsOpened image opened
Opens image (Err Damaged) = latest image ≡ Err Damaged
Opens image (Err _) = Unit {0}

-- the gates as seen from a slot
abbrev pub opened_at : ℕ → Slot → Bool → Bool → Opened
opened_at number slot.First first second = record {
  number = number;
  next = slot.First;
  next_is_open = first;
  other_is_open = second;
}
opened_at number slot.Second first second = record {
  number = number;
  next = slot.Second;
  next_is_open = second;
  other_is_open = first;
}
