-- What a crash may leave, at one moment and at each moment of a call.
use Rattle.std.specs.Prelude.{◌≡◌, ℕ, ◌≤◌, ◌<◌, ◌⊎◌, max, length, slice_get, Some}
use Rattle.spf_disk.specs.declared.disk.HelperFile.{HelperFile}
use Rattle.spf_disk.specs.Image.{Image, SameOthers, bytes_of}

-- An outcome of a crash after a change of a file, or after one that failed. Where the file is not
-- touched it has each octet that every crash left there before. Elsewhere there may be any octets
-- or, at the end of the file, none. It is not longer than every crash could leave it before, or
-- than the end of what was written. The other files are as a crash left them before.
pub record Torn (file : HelperFile) (untouched : ℕ → Type 0) (end : ℕ) (old : Image → Type 0)
    (c : Image) : Type 0 where
  pub stays : (i octet : ℕ) → untouched i
      → ((d : Image) → old d → slice_get (bytes_of d file) i ≡ Some octet)
      → slice_get (bytes_of c file) i ≡ Some octet
  pub no_longer : (size : ℕ) → ((d : Image) → old d → length (bytes_of d file) ≤ size)
      → length (bytes_of c file) ≤ max size end
  pub others : (d : Image) × old d × SameOthers file d c

-- each outcome after a write of the range
abbrev pub TornByWrite : HelperFile → ℕ → ℕ → (Image → Type 0) → (Image → Type 0) → Type 0
TornByWrite file from end old new = (c : Image) → new c
    → Torn file (λ i. (i < from) ⊎ (end ≤ i)) end old c

-- each outcome after a cut
abbrev pub TornByCut : HelperFile → ℕ → (Image → Type 0) → (Image → Type 0) → Type 0
TornByCut file count old new = (c : Image) → new c → Torn file (λ i. i < count) 0 old c

-- a crash leaves no other outcome than before
abbrev pub NoMore : (Image → Type 0) → (Image → Type 0) → Type 0
NoMore old new = (c : Image) → new c → old c

-- nothing of the file is pending: a crash leaves its bytes as they are here
abbrev pub IsSynced : HelperFile → Image → (Image → Type 0) → Type 0
IsSynced file image outcomes = (c : Image) → outcomes c → bytes_of c file ≡ bytes_of image file

-- nothing is pending: a crash leaves this and nothing else
abbrev pub Only : Image → (Image → Type 0) → Type 0
Only image outcomes = (c : Image) → outcomes c → c ≡ image

-- Time goes on: a crash at a moment since t left what it could
-- leave before, or what it may leave now; and no moment is lost.
pub record Elapses (before now : ℕ) (past since : ℕ → Image → Type 0)
    (may_leave : Image → Type 0) : Type 0 where
  pub later : before ≤ now
  pub nothing_else : (t : ℕ) (c : Image) → t ≤ before → since t c → past t c ⊎ may_leave c
  pub keeps : (t : ℕ) (c : Image) → t ≤ before → past t c → since t c

-- A crash at any moment from the one disk to the other leaves an image that has P.
pub record LeavesOnly {D : Type 0} (moment : D → ℕ) (left_since : D → ℕ → Image → Type 0)
    (old new : D) (P : Image → Type 0) : Type 0 where
  pub later : moment old ≤ moment new
  pub each : (c : Image) → left_since new (moment old) c → P c
  -- for a run that began earlier
  pub before : (t : ℕ) (c : Image) → t ≤ moment old → left_since new t c
      → left_since old t c ⊎ P c

-- Calls that only look, or sync: what a read gives is as before, and
-- a crash at any moment leaves no other outcome than before.
pub record Looks {D : Type 0} (seen : D → Image) (may_leave : D → Image → Type 0) (moment : D → ℕ)
    (left_since : D → ℕ → Image → Type 0) (old new : D) : Type 0 where
  pub same : seen new ≡ seen old
  pub no_more : NoMore (may_leave old) (may_leave new)
  pub any_moment : LeavesOnly moment left_since old new (may_leave old)
