-- How a live run ends: its status, and its line on standard error.
use Rattle.std.specs.Prelude.{ℕ, Bool, true, false, List, codes, None}
use Rattle.std.specs.Prelude.{Result, Ok, Err}
use Rattle.spf_feed.specs.declared.state.X509SourceError.{X509SourceError}
use Rattle.spf_feed.specs.declared.state.X509SourceError.TheVariants as source
use Rattle.spf_program.specs.Reports.{failure_line}
use Rattle.spf_program.specs.declared.arguments.ArgumentsError.{ArgumentsError}
use Rattle.spf_program.specs.declared.arguments.ArgumentsError.TheVariants as arguments
use Rattle.spf_live.specs.declared.error.LiveError.{LiveError}
use Rattle.spf_live.specs.declared.error.LiveError.TheVariants as errors

abbrev pub of_arguments : ArgumentsError → LiveError
of_arguments arguments.NotText = errors.BadArguments
of_arguments arguments.OutOfMemory = errors.OutOfMemory

-- the error of a source; one that nobody closed ends only out of memory
abbrev pub error_of : X509SourceError → LiveError
error_of (source.Source e) = errors.Rejected
error_of (source.UnsupportedRpc e) = errors.Unsupported
error_of source.InitialSyncTimeout = errors.TimedOut
error_of source.NoSupervisor = errors.NoSupervisor
error_of source.NoPlace = errors.NoPlace
error_of _ = errors.OutOfMemory

-- the end of a run, by that of printing, and by whether there is a record of the supervisor
abbrev pub end_of : Result (Unit {0}) LiveError → Bool → Result (Unit {0}) LiveError
end_of (Ok done) true = Ok tt
end_of (Ok done) false = Err errors.OutOfMemory
end_of (Err e) recorded = Err e

abbrev pub error_status : LiveError → ℕ
error_status errors.BadArguments = 1
error_status errors.OutOfMemory = 2
error_status errors.WriteFailed = 4
error_status errors.Rejected = 7
error_status errors.Unsupported = 8
error_status errors.TimedOut = 9
error_status errors.NoSupervisor = 12
error_status errors.NoPlace = 13

-- what is wrong, as the line on standard error says it
abbrev pub error_message : LiveError → List ℕ
error_message errors.BadArguments = codes "bad words\n"
error_message errors.OutOfMemory = codes "out of memory\n"
error_message errors.WriteFailed = codes "write failed\n"
error_message errors.Rejected = codes "request rejected\n"
error_message errors.Unsupported = codes "required RPC is unsupported\n"
error_message errors.TimedOut = codes "initial synchronization timed out\n"
error_message errors.NoSupervisor = codes "no supervisor\n"
error_message errors.NoPlace = codes "no place\n"

abbrev pub error_line : LiveError → List ℕ
error_line error = failure_line (codes "spiffe_watch: ") (error_message error) None

abbrev pub end_status : Result (Unit {0}) LiveError → ℕ
end_status (Ok done) = 0
end_status (Err error) = error_status error
