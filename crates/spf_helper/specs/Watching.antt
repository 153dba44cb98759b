-- The exit status of a run, and its line on the error output.
use Rattle.std.specs.Prelude.{◌≡◌, ℕ, ◌≤◌, List, [], codes, Option, None}
use Rattle.std.specs.Prelude.{Result, Ok, Err}
use Rattle.spf_io.specs.Outside.{Rose}
use Rattle.spf_disk.specs.declared.open_error.OpenError.TheVariants.{DiskFault, Damaged}
use Rattle.spf_disk.specs.declared.open_error.OpenError.TheVariants as opening
use Rattle.spf_disk.specs.Image.{Image}
use Rattle.spf_feed.specs.declared.follow_error.FollowError.TheVariants as follow_errors
use Rattle.spf_feed.specs.Limits.{default_limits}
use Rattle.spf_feed.specs.Steps.{PlainStep}
use Rattle.spf_program.specs.Reports.{IsReported, failure_line, follow_message, follow_number}
use Rattle.spf_program.specs.Reports.{follow_status}
use Rattle.spf_program.specs.Streams.{side}
use Rattle.spf_helper.specs.declared.helper_error.HelperError.{HelperError}
use Rattle.spf_helper.specs.declared.helper_error.HelperError.TheVariants as errors
use Rattle.spf_helper.specs.Runs.{Ended, LeavesFound, Ran}

abbrev pub status : HelperError → ℕ
status (errors.Open opening.OutOfMemory) = 2
status (errors.Open DiskFault) = 21
status (errors.Open Damaged) = 22
status (errors.Follow e) = follow_status e
status errors.DiskFault = 21
status errors.Full = 23

-- what is wrong, up to the number of a bad frame
abbrev pub message : HelperError → List ℕ
message (errors.Open opening.OutOfMemory) = codes "out of memory\n"
message (errors.Open DiskFault) = codes "disk failed\n"
message (errors.Open Damaged) = codes "damaged\n"
message (errors.Follow e) = follow_message e
message errors.DiskFault = codes "disk failed\n"
message errors.Full = codes "full\n"

abbrev pub number : HelperError → Option ℕ
number (errors.Follow e) = follow_number e
number _ = None

-- the line of an error
abbrev pub error_line : HelperError → List ℕ
error_line e = failure_line (codes "spf_helper: ") (message e) (number e)

abbrev pub status_of_end : Result ℕ HelperError → ℕ
status_of_end (Ok count) = 0
status_of_end (Err e) = status e

abbrev pub line_of_end : Result ℕ HelperError → List ℕ
line_of_end (Ok count) = []
line_of_end (Err e) = error_line e

-- what a run reads from and puts to, before and after it, and how often each failed
pub record Streams : Type 0 where
  pub left : Option (List ℕ)
  pub left' : Option (List ℕ)
  pub held : Option (List ℕ)
  pub held' : Option (List ℕ)
  pub said : Option (List ℕ)
  pub said' : Option (List ℕ)
  pub reads : ℕ
  pub reads' : ℕ
  pub writes : ℕ
  pub writes' : ℕ
  pub failures : ℕ
  pub failures' : ℕ

-- a failure of the source or the output comes only where its count rose
pub record HasCauses (reads reads' writes writes' : ℕ) (r : Result ℕ HelperError) : Type 0 where
  pub reads_later : reads ≤ reads'
  pub writes_later : writes ≤ writes'
  pub read : r ≡ Err (errors.Follow follow_errors.ReadFault) → Rose reads reads'
  pub write : r ≡ Err (errors.Follow follow_errors.WriteFault) → Rose writes writes'

-- A session was followed over a disk, and this is how it ended and was reported.
pub record Watches {D : Type 0} (seen : D → Image) (may_leave : D → Image → Type 0)
    (moment : D → ℕ) (left_since : D → ℕ → Image → Type 0) (failures : D → ℕ) (old new : D)
    (s : Streams) (n : ℕ) : Type 0 where
  pub end : Result ℕ HelperError
  pub steps : List PlainStep
  pub ended : Ended default_limits 1000000 (seen old) s.left s.left' s.held s.held' steps end
  pub ran : Ran seen may_leave failures old new steps end
  pub any_moment : LeavesFound seen may_leave moment left_since old new steps
  pub causes : HasCauses s.reads s.reads' s.writes s.writes' end
  pub status : n ≡ status_of_end end
  pub line : IsReported (side s.said s.failures) (side s.said' s.failures') (line_of_end end)
