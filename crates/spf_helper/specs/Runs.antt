-- Following a session over a disk.
use Rattle.std.specs.Prelude.{◌≡◌, ℕ, ◌+◌, ◌^◌, ◌≤◌, ◌⊎◌, Bool, true, false, IsTrue, List, []}
use Rattle.std.specs.Prelude.{◌≢◌, length, Option, None, Some, Result, Ok, Err}
use Rattle.spf_io.specs.Outside.{Rose}
use Rattle.spf_disk.specs.declared.open_error.OpenError.{OpenError}
use Rattle.spf_disk.specs.declared.open_error.OpenError.TheVariants.{DiskFault, Damaged}
use Rattle.spf_disk.specs.declared.generation.Entry.{Entry}
use Rattle.spf_disk.specs.Crash.{Only}
use Rattle.spf_disk.specs.Image.{Image}
use Rattle.spf_disk.specs.Standing.{latest}
use Rattle.spf_view.specs.Sessions.{Followed}
use Rattle.spf_feed.specs.declared.follow_error.FollowError.{FollowError}
use Rattle.spf_feed.specs.declared.limits.ResourceLimits.{ResourceLimits}
use Rattle.spf_feed.specs.declared.ready.Ready.TheVariants.{Usable}
use Rattle.spf_feed.specs.declared.record.MetricsRecord.{MetricsRecord}
use Rattle.spf_feed.specs.Items.{Rules, rules_with}
use Rattle.spf_feed.specs.Run.{stream, outputs, end_for}
use Rattle.spf_feed.specs.Steps.{PlainStep}
use Rattle.spf_helper.specs.declared.helper_error.HelperError.{HelperError}
use Rattle.spf_helper.specs.declared.helper_error.HelperError.TheVariants as errors
use Rattle.spf_helper.specs.Keeping.{IsFoundAfter, IsWhole, base_of}

-- without a deadline and a picker; the first context needs a choice that can be used
abbrev pub helper_rules : ResourceLimits → Rules
helper_rules limits = rules_with limits None Usable None

-- A session was followed, and what is read, put and published belongs to one list of events.
pub record Follows (limits : ResourceLimits) (max_frames : ℕ)
    (left left' held held' : Option (List ℕ)) (steps : List PlainStep)
    (r : Result ℕ FollowError) : Type 0 where
  pub records : Option (List MetricsRecord)
  pub followed : Followed (stream (helper_rules limits)) (outputs (helper_rules limits)) max_frames
      (record { left = left; held = held; steps = Some []; records = None })
      (record { left = left'; held = held'; steps = Some steps; records = records }) (end_for r)

-- The files could not be opened.
abbrev pub IsUnopened : Image → OpenError → Type 0
IsUnopened image Damaged = latest image ≡ Err Damaged
IsUnopened image _ = Unit {0}

-- Where the bytes of the source are known, a session that is followed to its end has a step.
abbrev pub HasStep : Option (List ℕ) → List PlainStep → Type 0
HasStep None steps = Unit {0}
HasStep (Some bytes) steps = steps ≢ []

-- How it ended: nothing is read, put and published where the files could not be opened.
abbrev pub Ended : ResourceLimits → ℕ → Image → Option (List ℕ) → Option (List ℕ)
    → Option (List ℕ) → Option (List ℕ) → List PlainStep → Result ℕ HelperError → Type 0
Ended limits max image left left' held held' steps (Ok count) =
    Follows limits max left left' held held' steps (Ok count) × HasStep left steps
Ended limits max image left left' held held' steps (Err (errors.Open e)) =
    IsUnopened image e × (left' ≡ left) × (held' ≡ held) × (steps ≡ [])
Ended limits max image left left' held held' steps (Err (errors.Follow e)) =
    Follows limits max left left' held held' steps (Err e)
Ended limits max image left left' held held' steps (Err errors.DiskFault) =
    (r : Result ℕ FollowError) × Follows limits max left left' held held' steps r
Ended limits max image left left' held held' steps (Err errors.Full) =
    (r : Result ℕ FollowError) × Follows limits max left left' held held' steps r

-- the disk failed, in opening the files or later
abbrev pub is_disk_fault : Result ℕ HelperError → Bool
is_disk_fault (Err (errors.Open DiskFault)) = true
is_disk_fault (Err errors.DiskFault) = true
is_disk_fault _ = false

-- the files were opened
abbrev pub is_opened : Result ℕ HelperError → Bool
is_opened (Err (errors.Open e)) = false
is_opened _ = true

-- all steps are written
abbrev pub is_written : Result ℕ HelperError → Bool
is_written (Ok count) = true
is_written (Err (errors.Follow e)) = true
is_written _ = false

-- a run of a publisher that failed or had no number left, or of one that wrote all steps
abbrev pub ended_as : Bool → Bool → Result ℕ FollowError → Result ℕ HelperError
ended_as true full r = Err errors.DiskFault
ended_as false true r = Err errors.Full
ended_as false false (Ok count) = Ok count
ended_as false false (Err e) = Err (errors.Follow e)

-- A crash at any moment of a run left what it had left by
-- then, `past`, or what is found after a beginning of the steps.
abbrev pub LeavesBeside : {D : Type 0} → (D → ℕ) → (D → ℕ → Image → Type 0) → D → D
    → (ℕ → Image → Type 0) → Image → List PlainStep → Type 0
LeavesBeside moment left_since old new past image steps =
    (c : Image) → left_since new (moment old) c
    → past (moment old) c ⊎ IsFoundAfter image steps c

-- Where nothing was pending before a run, a crash at any moment
-- of it left what is found after a beginning of the steps.
abbrev pub LeavesFound : {D : Type 0} → (D → Image) → (D → Image → Type 0) → (D → ℕ)
    → (D → ℕ → Image → Type 0) → D → D → List PlainStep → Type 0
LeavesFound seen may_leave moment left_since old new steps =
    Only (seen old) (may_leave old) → (c : Image) → left_since new (moment old) c
    → IsFoundAfter (seen old) steps c

-- What a run with these steps leaves on the disk, and what its errors of the disk mean.
pub record Ran {D : Type 0} (seen : D → Image) (may_leave : D → Image → Type 0) (failures : D → ℕ)
    (old new : D) (steps : List PlainStep) (r : Result ℕ HelperError) : Type 0 where
  -- each crash after it leaves what is found after all steps
  pub written : IsTrue (is_written r) → IsWhole seen may_leave (seen old) steps new
  -- what is opened is not damaged
  pub undamaged : IsTrue (is_opened r) → (e : Option Entry) × (latest (seen old) ≡ Ok e)
  pub later : failures old ≤ failures new
  pub fault : IsTrue (is_disk_fault r) → Rose (failures old) (failures new)
  -- the numbers ran out, and exactly then where the files were opened and the disk did not fail
  pub full : r ≡ Err errors.Full → 2 ^ 64 ≤ base_of (seen old) + length steps
  pub only_then : IsTrue (is_opened r) → (Rose (failures old) (failures new) → ⊥)
      → 2 ^ 64 ≤ base_of (seen old) + length steps → r ≡ Err errors.Full
