-- A disk in memory: its files now, and as they were before each change.
use Rattle.std.specs.Prelude.{ℕ, ◌⊎◌, List, [], ◌∷◌, length, map, drop, refl}
use Rattle.std.proofs.Common.{arith}
use mathlib.Core.Logic.{inl, inr}
use Rattle.std.specs.declared.snapshot.Snapshot.{Snapshot}
use Rattle.spf_disk.specs.declared.disk.HelperFile.{HelperFile}
use Rattle.spf_disk.specs.declared.disk.HelperFile.TheVariants.{Gates, First, Second}
use Rattle.spf_disk.specs.declared.mem_disk.MemFiles.{MemFiles}
use Rattle.spf_disk.specs.Image.{Image}
use Rattle.spf_disk.specs.Memory.{FileState, IsOutcome, IsFilled}

abbrev pub state_of : MemFiles → HelperFile → FileState
state_of files Gates = files.gates
state_of files First = files.first
state_of files Second = files.second

abbrev pub with_state : HelperFile → FileState → MemFiles → MemFiles
with_state Gates state files = record files { gates = state }
with_state First state files = record files { first = state }
with_state Second state files = record files { second = state }

-- what a read gives
abbrev pub image_of : MemFiles → Image
image_of files = record {
  gates = files.gates.bytes;
  first = files.first.bytes;
  second = files.second.bytes;
}

-- what the files were, before each change
abbrev pub moments : List (Snapshot MemFiles) → List MemFiles
moments past = map (λ s. s.value) past

-- a crash may leave this of the files
pub record IsLeft (files : MemFiles) (c : Image) : Type 0 where
  pub gates : IsOutcome files.gates c.gates
  pub first : IsOutcome files.first c.first
  pub second : IsOutcome files.second c.second

-- a crash may have left it at one of these times
abbrev pub WasLeft : List MemFiles → Image → Type 0
WasLeft [] c = ⊥
WasLeft (files ∷ past) c = IsLeft files c ⊎ WasLeft past c

-- since a time
abbrev pub LeftSince : List MemFiles → MemFiles → ℕ → Image → Type 0
LeftSince past files t c = IsLeft files c ⊎ WasLeft (drop t past) c

none_left : (past : List MemFiles) (c : Image) → WasLeft (drop (length past) past) c → ⊥
none_left [] c was = was
none_left (files ∷ past) c was = none_left past c was

-- since the last of them there is what there is now
pub only_now : (past : List MemFiles) (files : MemFiles) (c : Image)
    → LeftSince past files (length past) c → IsLeft files c
only_now past files c (inl now) = now
only_now past files c (inr was) = absurd (none_left past c was)

pub seen_left : (files : MemFiles) → IsLeft files (image_of files)
seen_left files = record {
  gates = seen files.gates;
  first = seen files.first;
  second = seen files.second;
}
  where
    seen : (f : FileState) → IsOutcome f f.bytes
    seen f = record { stays = λ i settled inside. refl; no_longer = omega arith }

-- each file with `fill` where a crash may leave anything
pub record IsCrashed (fill : ℕ) (files : MemFiles) (c : Image) : Type 0 where
  pub gates : IsFilled fill files.gates c.gates
  pub first : IsFilled fill files.first c.first
  pub second : IsFilled fill files.second c.second
