-- The exit status of a failure, and its line on the error output.
use Rattle.std.specs.Prelude.{◌≡◌, ℕ, List, [], ◌∷◌, ◌++◌, codes, decimal, Option, None, Some}
use Rattle.std.specs.Prelude.{Result, Ok, Err}
use Rattle.spf_io.specs.declared.memory.Failed.{Failed}
use Rattle.spf_io.specs.Outside.{HasCause, PutAppends}
use Rattle.spf_feed.specs.declared.follow_error.FollowError.{FollowError}
use Rattle.spf_feed.specs.declared.follow_error.FollowError.TheVariants as errors
use Rattle.spf_program.specs.Streams.{Side}
use Rattle.spf_program.specs.declared.arguments.ArgumentsError.{ArgumentsError}
use Rattle.spf_program.specs.declared.arguments.ArgumentsError.TheVariants as arguments

abbrev pub arguments_status : ArgumentsError → ℕ
arguments_status arguments.NotText = 1
arguments_status arguments.OutOfMemory = 2

abbrev pub arguments_message : ArgumentsError → List ℕ
arguments_message arguments.NotText = codes "bad words\n"
arguments_message arguments.OutOfMemory = codes "out of memory\n"

abbrev pub follow_status : FollowError → ℕ
follow_status errors.OutOfMemory = 2
follow_status errors.ReadFault = 3
follow_status errors.WriteFault = 4
follow_status errors.SessionTooLong = 5
follow_status (errors.BadFrame frame) = 6
follow_status (errors.Source e) = 7
follow_status (errors.UnsupportedRpc e) = 8
follow_status errors.InitialSyncTimeout = 9
follow_status errors.Closed = 10
follow_status errors.NeverSynced = 11

-- what is wrong, up to the number of a bad frame
abbrev pub follow_message : FollowError → List ℕ
follow_message errors.OutOfMemory = codes "out of memory\n"
follow_message errors.ReadFault = codes "read failed\n"
follow_message errors.WriteFault = codes "write failed\n"
follow_message errors.SessionTooLong = codes "session too long\n"
follow_message (errors.BadFrame frame) = codes "bad frame "
follow_message (errors.Source e) = codes "request rejected\n"
follow_message (errors.UnsupportedRpc e) = codes "required RPC is unsupported\n"
follow_message errors.InitialSyncTimeout = codes "initial synchronization timed out\n"
follow_message errors.Closed = codes "source is closed\n"
follow_message errors.NeverSynced = codes "no update was accepted\n"

abbrev pub follow_number : FollowError → Option ℕ
follow_number (errors.BadFrame frame) = Some frame
follow_number _ = None

-- the number that a line ends with, and its line feed
abbrev pub number_end : Option ℕ → List ℕ
number_end None = []
number_end (Some number) = decimal number ++ 10 ∷ []

-- the line of a failure: which program failed, what is wrong, and the number that may end it
abbrev pub failure_line : List ℕ → List ℕ → Option ℕ → List ℕ
failure_line program message number = program ++ (message ++ number_end number)

-- A line is put; where the error output failed, a prefix of it.
pub record IsReported (before after : Side) (line : List ℕ) : Type 0 where
  pub put : Result (Unit {0}) Failed
  pub appends : PutAppends before.bytes after.bytes put line
  pub cause : HasCause before.failures after.failures put

-- The line of an error is put, and nothing where the run ended well.
abbrev pub IsEndReported : {E : Type 0} → (E → List ℕ) → Side → Side → Result (Unit {0}) E → Type 0
IsEndReported line before after (Ok done) = after ≡ before
IsEndReported line before after (Err error) = IsReported before after (line error)

abbrev pub about_status : ℕ → Result (Unit {0}) Failed → ℕ
about_status failed (Ok done) = 0
about_status failed (Err fault) = failed

-- A text is put, and the status is 0; or the output failed, and a line says so.
pub record IsAboutPut (before after errors errors' : Side) (text line : List ℕ) (failed status : ℕ)
    : Type 0 where
  pub put : Result (Unit {0}) Failed
  pub appends : PutAppends before.bytes after.bytes put text
  pub cause : HasCause before.failures after.failures put
  pub status_is : status ≡ about_status failed put
  pub reported : IsEndReported (λ fault. line) errors errors' put
