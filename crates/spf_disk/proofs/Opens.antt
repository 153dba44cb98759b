-- What is opened, from either slot.
use Rattle.std.proofs.Common.{◌≡◌, ℕ, Bool, Option}
use Rattle.std.specs.Option.{option_map_or}
use Rattle.spf_disk.specs.declared.generation.Entry.{Entry}
use Rattle.spf_disk.specs.declared.slot.Slot.{Slot}
use Rattle.spf_disk.specs.declared.slot.Slot.TheVariants as slot
use Rattle.spf_disk.specs.Image.{Image}
use Rattle.spf_disk.specs.Opening.{IsOpened, opened_at}
use Rattle.spf_disk.specs.Scanning.{IsNext}
use Rattle.spf_disk.specs.Slots.{gate_of}
use Rattle.spf_disk.specs.Standing.{is_open, number_of}

pub is_opened : (image : Image) (next : Slot) (entry : Option Entry) (number : ℕ)
    (first second : Bool) → number ≡ option_map_or number_of entry 0
    → first ≡ is_open (gate_of image slot.First) → second ≡ is_open (gate_of image slot.Second)
    → IsNext next entry image → IsOpened image (opened_at number next first second)
is_opened image slot.First entry number first second is one two next = record {
  entry = entry;
  is_next = next;
  number = is;
  next_gate = one;
  other_gate = two;
}
is_opened image slot.Second entry number first second is one two next = record {
  entry = entry;
  is_next = next;
  number = is;
  next_gate = two;
  other_gate = one;
}
