-- Why a run ends: its status, its line, and when reading or writing failed.
use Rattle.std.specs.Prelude.{◌≡◌, ℕ, ◌≤◌, Bool, true, false, List, [], ◌∷◌, ◌++◌, codes}
use Rattle.std.specs.Prelude.{decimal, Option, None, Some, Result, Err}
use Rattle.spf_io.specs.Outside.{Rose}
use Rattle.spf_feed.specs.declared.follow_error.FollowError.{FollowError}
use Rattle.spf_feed.specs.declared.follow_error.FollowError.TheVariants as errors
use Rattle.spf_watch.specs.declared.exit_reason.ExitReason.{ExitReason}
use Rattle.spf_watch.specs.declared.exit_reason.ExitReason.TheVariants as reasons
use Rattle.spf_watch.specs.Octets.{LINE_FEED}

-- the status of the process
abbrev pub status : ExitReason → ℕ
status reasons.BadArguments = 1
status reasons.OutOfMemory = 2
status reasons.ReadFailed = 3
status reasons.WriteFailed = 4
status reasons.SessionTooLong = 5
status (reasons.BadFrame frame) = 6
status reasons.Rejected = 7
status reasons.Unsupported = 8
status reasons.TimedOut = 9
status reasons.Closed = 10
status reasons.NeverSynced = 11

-- what the line of a reason says
abbrev pub reason_text : ExitReason → List ℕ
reason_text reasons.BadArguments = codes "bad words"
reason_text reasons.OutOfMemory = codes "out of memory"
reason_text reasons.ReadFailed = codes "read failed"
reason_text reasons.WriteFailed = codes "write failed"
reason_text reasons.SessionTooLong = codes "session too long"
reason_text (reasons.BadFrame frame) = codes "bad frame " ++ decimal frame
reason_text reasons.Rejected = codes "request rejected"
reason_text reasons.Unsupported = codes "required RPC is unsupported"
reason_text reasons.TimedOut = codes "initial synchronization timed out"
reason_text reasons.Closed = codes "source is closed"
reason_text reasons.NeverSynced = codes "no update was accepted"

-- the line of a reason
abbrev pub reason_line : ExitReason → List ℕ
reason_line reason = codes "spiffe_watch: " ++ (reason_text reason ++ LINE_FEED ∷ [])

-- the number of a bad frame
abbrev pub frame_in : ExitReason → Option ℕ
frame_in (reasons.BadFrame frame) = Some frame
frame_in _ = None

-- whether a run ended because its arguments are not those of the program
abbrev pub is_bad_arguments : ExitReason → Bool
is_bad_arguments reasons.BadArguments = true
is_bad_arguments _ = false

-- whether a run ended because memory ran out or its output failed
abbrev pub is_output_failure : ExitReason → Bool
is_output_failure reasons.OutOfMemory = true
is_output_failure reasons.WriteFailed = true
is_output_failure _ = false

-- the counts never fall, and a failure of reading or writing comes only where its count rose
pub record HasCauses (reads reads' writes writes' : ℕ)
    (r : Result (Unit {0}) ExitReason) : Type 0 where
  pub reads_later : reads ≤ reads'
  pub writes_later : writes ≤ writes'
  pub read : r ≡ Err reasons.ReadFailed → Rose reads reads'
  pub write : r ≡ Err reasons.WriteFailed → Rose writes writes'

-- how the error of `follow_x509` reads
abbrev pub reason_of_error : FollowError → ExitReason
reason_of_error errors.OutOfMemory = reasons.OutOfMemory
reason_of_error errors.ReadFault = reasons.ReadFailed
reason_of_error errors.WriteFault = reasons.WriteFailed
reason_of_error errors.SessionTooLong = reasons.SessionTooLong
reason_of_error (errors.BadFrame frame) = reasons.BadFrame frame
reason_of_error (errors.Source e) = reasons.Rejected
reason_of_error (errors.UnsupportedRpc e) = reasons.Unsupported
reason_of_error errors.InitialSyncTimeout = reasons.TimedOut
reason_of_error errors.Closed = reasons.Closed
reason_of_error errors.NeverSynced = reasons.NeverSynced
