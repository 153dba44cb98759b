-- Three files, and what a call changes in them.
use Rattle.std.specs.Prelude.{◌≡◌, ℕ, ◌+◌, ◌≤◌, ◌<◌, List, ◌++◌, length, take, drop}
use Rattle.spf_disk.specs.declared.disk.HelperFile.{HelperFile}
use Rattle.spf_disk.specs.declared.disk.HelperFile.TheVariants.{Gates, First, Second}

-- the bytes of the three files
pub record Image : Type 0 where
  pub gates : List ℕ
  pub first : List ℕ
  pub second : List ℕ

abbrev pub bytes_of : Image → HelperFile → List ℕ
bytes_of image Gates = image.gates
bytes_of image First = image.first
bytes_of image Second = image.second

-- the other two files have the same bytes in both
abbrev pub SameOthers : HelperFile → Image → Image → Type 0
SameOthers Gates old new = (new.first ≡ old.first) × (new.second ≡ old.second)
SameOthers First old new = (new.gates ≡ old.gates) × (new.second ≡ old.second)
SameOthers Second old new = (new.gates ≡ old.gates) × (new.first ≡ old.first)

-- One file changes by this step, and the others are as they were.
pub record OnFile (file : HelperFile) (step : List ℕ → List ℕ → Type 0)
    (old new : Image) : Type 0 where
  pub change : step (bytes_of old file) (bytes_of new file)
  pub others : SameOthers file old new

-- the piece replaces what was at `at`
abbrev pub Written : ℕ → List ℕ → List ℕ → List ℕ → Type 0
Written at piece old new = new ≡ take at old ++ (piece ++ drop (at + length piece) old)

-- the first octets are kept
abbrev pub Kept : ℕ → List ℕ → List ℕ → Type 0
Kept count old new = new ≡ take count old

-- a read of `count` octets into a buffer: the first of those left, and at least one where one is
-- left and the buffer has room
pub record IsRead (left : List ℕ) (count : ℕ) (buf : List ℕ) : Type 0 where
  pub fits : count ≤ length buf
  pub inside : count ≤ length left
  pub octets : take count buf ≡ take count left
  pub some : 0 < length buf → 0 < length left → 0 < count
