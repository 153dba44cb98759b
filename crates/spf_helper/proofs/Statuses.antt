-- What the exit statuses mean.
use Rattle.std.proofs.Common.{◌≡◌, ℕ, ◌⊎◌, inl, inr, List, Result, Ok, Err, refl, sym, ◌∙◌, arith}
use Rattle.std.specs.Prelude.{IsTrue}
use Rattle.spf_io.specs.Outside.{Rose}
use Rattle.spf_disk.specs.declared.open_error.OpenError.TheVariants as opening
use Rattle.spf_disk.specs.Image.{Image}
use Rattle.spf_disk.specs.Standing.{latest}
use Rattle.spf_feed.specs.Steps.{PlainStep}
use Rattle.spf_feed.specs.declared.follow_error.FollowError.TheVariants as follow_errors
use Rattle.spf_helper.specs.declared.helper_error.HelperError.{HelperError}
use Rattle.spf_helper.specs.declared.helper_error.HelperError.TheVariants as errors
use Rattle.spf_helper.specs.Runs.{Ran, is_disk_fault}
use Rattle.spf_helper.specs.Watching.{status_of_end}

-- 1 is the status of other words
pub never_one : (r : Result ℕ HelperError) → status_of_end r ≡ 1 → ⊥
never_one (Ok count) is = omega (arith, is)
never_one (Err (errors.Open opening.OutOfMemory)) is = omega (arith, is)
never_one (Err (errors.Open opening.DiskFault)) is = omega (arith, is)
never_one (Err (errors.Open opening.Damaged)) is = omega (arith, is)
never_one (Err (errors.Follow follow_errors.OutOfMemory)) is = omega (arith, is)
never_one (Err (errors.Follow follow_errors.ReadFault)) is = omega (arith, is)
never_one (Err (errors.Follow follow_errors.WriteFault)) is = omega (arith, is)
never_one (Err (errors.Follow follow_errors.SessionTooLong)) is = omega (arith, is)
never_one (Err (errors.Follow (follow_errors.BadFrame frame))) is = omega (arith, is)
never_one (Err (errors.Follow (follow_errors.Source e))) is = omega (arith, is)
never_one (Err (errors.Follow (follow_errors.UnsupportedRpc e))) is = omega (arith, is)
never_one (Err (errors.Follow follow_errors.InitialSyncTimeout)) is = omega (arith, is)
never_one (Err (errors.Follow follow_errors.Closed)) is = omega (arith, is)
never_one (Err (errors.Follow follow_errors.NeverSynced)) is = omega (arith, is)
never_one (Err errors.DiskFault) is = omega (arith, is)
never_one (Err errors.Full) is = omega (arith, is)

pub read_failed : (r : Result ℕ HelperError) → status_of_end r ≡ 3
    → r ≡ Err (errors.Follow follow_errors.ReadFault)
read_failed (Ok count) is = absurd (omega (arith, is))
read_failed (Err (errors.Open opening.OutOfMemory)) is = absurd (omega (arith, is))
read_failed (Err (errors.Open opening.DiskFault)) is = absurd (omega (arith, is))
read_failed (Err (errors.Open opening.Damaged)) is = absurd (omega (arith, is))
read_failed (Err (errors.Follow follow_errors.OutOfMemory)) is = absurd (omega (arith, is))
read_failed (Err (errors.Follow follow_errors.ReadFault)) is = refl
read_failed (Err (errors.Follow follow_errors.WriteFault)) is = absurd (omega (arith, is))
read_failed (Err (errors.Follow follow_errors.SessionTooLong)) is = absurd (omega (arith, is))
read_failed (Err (errors.Follow (follow_errors.BadFrame frame))) is = absurd (omega (arith, is))
read_failed (Err (errors.Follow (follow_errors.Source e))) is = absurd (omega (arith, is))
read_failed (Err (errors.Follow (follow_errors.UnsupportedRpc e))) is = absurd (omega (arith, is))
read_failed (Err (errors.Follow follow_errors.InitialSyncTimeout)) is = absurd (omega (arith, is))
read_failed (Err (errors.Follow follow_errors.Closed)) is = absurd (omega (arith, is))
read_failed (Err (errors.Follow follow_errors.NeverSynced)) is = absurd (omega (arith, is))
read_failed (Err errors.DiskFault) is = absurd (omega (arith, is))
read_failed (Err errors.Full) is = absurd (omega (arith, is))

pub write_failed : (r : Result ℕ HelperError) → status_of_end r ≡ 4
    → r ≡ Err (errors.Follow follow_errors.WriteFault)
write_failed (Ok count) is = absurd (omega (arith, is))
write_failed (Err (errors.Open opening.OutOfMemory)) is = absurd (omega (arith, is))
write_failed (Err (errors.Open opening.DiskFault)) is = absurd (omega (arith, is))
write_failed (Err (errors.Open opening.Damaged)) is = absurd (omega (arith, is))
write_failed (Err (errors.Follow follow_errors.OutOfMemory)) is = absurd (omega (arith, is))
write_failed (Err (errors.Follow follow_errors.ReadFault)) is = absurd (omega (arith, is))
write_failed (Err (errors.Follow follow_errors.WriteFault)) is = refl
write_failed (Err (errors.Follow follow_errors.SessionTooLong)) is = absurd (omega (arith, is))
write_failed (Err (errors.Follow (follow_errors.BadFrame frame))) is = absurd (omega (arith, is))
write_failed (Err (errors.Follow (follow_errors.Source e))) is = absurd (omega (arith, is))
write_failed (Err (errors.Follow (follow_errors.UnsupportedRpc e))) is = absurd (omega (arith, is))
write_failed (Err (errors.Follow follow_errors.InitialSyncTimeout)) is = absurd (omega (arith, is))
write_failed (Err (errors.Follow follow_errors.Closed)) is = absurd (omega (arith, is))
write_failed (Err (errors.Follow follow_errors.NeverSynced)) is = absurd (omega (arith, is))
write_failed (Err errors.DiskFault) is = absurd (omega (arith, is))
write_failed (Err errors.Full) is = absurd (omega (arith, is))

pub disk_failed : (r : Result ℕ HelperError) → status_of_end r ≡ 21
    → IsTrue (is_disk_fault r)
disk_failed (Ok count) is = absurd (omega (arith, is))
disk_failed (Err (errors.Open opening.OutOfMemory)) is = absurd (omega (arith, is))
disk_failed (Err (errors.Open opening.DiskFault)) is = refl
disk_failed (Err (errors.Open opening.Damaged)) is = absurd (omega (arith, is))
disk_failed (Err (errors.Follow follow_errors.OutOfMemory)) is = absurd (omega (arith, is))
disk_failed (Err (errors.Follow follow_errors.ReadFault)) is = absurd (omega (arith, is))
disk_failed (Err (errors.Follow follow_errors.WriteFault)) is = absurd (omega (arith, is))
disk_failed (Err (errors.Follow follow_errors.SessionTooLong)) is = absurd (omega (arith, is))
disk_failed (Err (errors.Follow (follow_errors.BadFrame frame))) is = absurd (omega (arith, is))
disk_failed (Err (errors.Follow (follow_errors.Source e))) is = absurd (omega (arith, is))
disk_failed (Err (errors.Follow (follow_errors.UnsupportedRpc e))) is = absurd (omega (arith, is))
disk_failed (Err (errors.Follow follow_errors.InitialSyncTimeout)) is = absurd (omega (arith, is))
disk_failed (Err (errors.Follow follow_errors.Closed)) is = absurd (omega (arith, is))
disk_failed (Err (errors.Follow follow_errors.NeverSynced)) is = absurd (omega (arith, is))
disk_failed (Err errors.DiskFault) is = refl
disk_failed (Err errors.Full) is = absurd (omega (arith, is))

pub was_damaged : (r : Result ℕ HelperError) → status_of_end r ≡ 22
    → r ≡ Err (errors.Open opening.Damaged)
was_damaged (Ok count) is = absurd (omega (arith, is))
was_damaged (Err (errors.Open opening.OutOfMemory)) is = absurd (omega (arith, is))
was_damaged (Err (errors.Open opening.DiskFault)) is = absurd (omega (arith, is))
was_damaged (Err (errors.Open opening.Damaged)) is = refl
was_damaged (Err (errors.Follow follow_errors.OutOfMemory)) is = absurd (omega (arith, is))
was_damaged (Err (errors.Follow follow_errors.ReadFault)) is = absurd (omega (arith, is))
was_damaged (Err (errors.Follow follow_errors.WriteFault)) is = absurd (omega (arith, is))
was_damaged (Err (errors.Follow follow_errors.SessionTooLong)) is = absurd (omega (arith, is))
was_damaged (Err (errors.Follow (follow_errors.BadFrame frame))) is = absurd (omega (arith, is))
was_damaged (Err (errors.Follow (follow_errors.Source e))) is = absurd (omega (arith, is))
was_damaged (Err (errors.Follow (follow_errors.UnsupportedRpc e))) is = absurd (omega (arith, is))
was_damaged (Err (errors.Follow follow_errors.InitialSyncTimeout)) is = absurd (omega (arith, is))
was_damaged (Err (errors.Follow follow_errors.Closed)) is = absurd (omega (arith, is))
was_damaged (Err (errors.Follow follow_errors.NeverSynced)) is = absurd (omega (arith, is))
was_damaged (Err errors.DiskFault) is = absurd (omega (arith, is))
was_damaged (Err errors.Full) is = absurd (omega (arith, is))

-- damage is reported, unless the disk failed or memory ran out
pub damage_said : {D : Type 0} (seen : D → Image) (may_leave : D → Image → Type 0)
    (failures : D → ℕ) (old new : D) (steps : List PlainStep) (r : Result ℕ HelperError)
    → Ran seen may_leave failures old new steps r → latest (seen old) ≡ Err opening.Damaged
    → (Rose (failures old) (failures new) → ⊥) → (status_of_end r ≡ 22) ⊎ (status_of_end r ≡ 2)
damage_said seen may_leave failures old new steps (Ok count) ran is well =
    let no = sym is ∙ (ran.undamaged refl).1 in absurd cc
damage_said seen may_leave failures old new steps (Err (errors.Open opening.OutOfMemory)) ran is
    well = inr refl
damage_said seen may_leave failures old new steps (Err (errors.Open opening.DiskFault)) ran is
    well = absurd (well (ran.fault refl))
damage_said seen may_leave failures old new steps (Err (errors.Open opening.Damaged)) ran is
    well = inl refl
damage_said seen may_leave failures old new steps (Err (errors.Follow e)) ran is well =
    let no = sym is ∙ (ran.undamaged refl).1 in absurd cc
damage_said seen may_leave failures old new steps (Err errors.DiskFault) ran is well =
    absurd (well (ran.fault refl))
damage_said seen may_leave failures old new steps (Err errors.Full) ran is well =
    let no = sym is ∙ (ran.undamaged refl).1 in absurd cc
