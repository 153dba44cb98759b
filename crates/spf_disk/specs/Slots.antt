-- The two files that hold entries, and the octet of each in the gates.
use Rattle.std.specs.Prelude.{ℕ, List, slice_get, Option}
use Rattle.spf_disk.specs.declared.disk.HelperFile.{HelperFile}
use Rattle.spf_disk.specs.declared.disk.HelperFile.TheVariants as file
use Rattle.spf_disk.specs.declared.slot.Slot.{Slot}
use Rattle.spf_disk.specs.declared.slot.Slot.TheVariants as slot
use Rattle.spf_disk.specs.Image.{Image, bytes_of}

abbrev pub file_of_slot : Slot → HelperFile
file_of_slot slot.First = file.First
file_of_slot slot.Second = file.Second

abbrev pub gate_number : Slot → ℕ
gate_number slot.First = 0
gate_number slot.Second = 1

abbrev pub other_slot : Slot → Slot
other_slot slot.First = slot.Second
other_slot slot.Second = slot.First

abbrev pub gate_of : Image → Slot → Option ℕ
gate_of image s = slice_get image.gates (gate_number s)

abbrev pub held_by : Image → Slot → List ℕ
held_by image s = bytes_of image (file_of_slot s)
