-- How a live run of the gate ends: its status, and its line on standard error.
use Rattle.std.specs.Prelude.{ℕ, Bool, true, false, List, codes, Option, None, Some}
use Rattle.std.specs.Prelude.{Result, Ok, Err}
use Rattle.spf_feed.specs.declared.state.X509SourceError.{X509SourceError}
use Rattle.spf_feed.specs.declared.state.X509SourceError.TheVariants as source
use Rattle.spf_program.specs.Reports.{failure_line}
use Rattle.spf_program.specs.declared.arguments.ArgumentsError.{ArgumentsError}
use Rattle.spf_program.specs.declared.arguments.ArgumentsError.TheVariants as arguments
use Rattle.spf_gate.specs.declared.gate_error.GateError.{GateError}
use Rattle.spf_gate.specs.declared.gate_error.GateError.TheVariants as gate
use Rattle.spf_gate_live.specs.declared.live_error.LiveGateError.{LiveGateError}
use Rattle.spf_gate_live.specs.declared.live_error.LiveGateError.TheVariants as errors

-- the error of a build; one without a timeout, over a source that nobody closed, has no others
abbrev pub error_of : X509SourceError → LiveGateError
error_of (source.Source e) = errors.Rejected
error_of (source.UnsupportedRpc e) = errors.Unsupported
error_of source.NoSupervisor = errors.NoSupervisor
error_of source.NoPlace = errors.NoPlace
error_of _ = errors.Gate gate.OutOfMemory

-- the end of a run, by that of answering, and by whether there is a record of the supervisor
abbrev pub end_of : Result ℕ GateError → Bool → Result (Unit {0}) LiveGateError
end_of (Ok count) true = Ok tt
end_of (Ok count) false = Err (errors.Gate gate.OutOfMemory)
end_of (Err e) recorded = Err (errors.Gate e)

abbrev pub gate_number : GateError → ℕ
gate_number gate.ReadFault = 1
gate_number gate.WriteFault = 2
gate_number (gate.BadRule line) = 3
gate_number gate.NoPolicyEnd = 4
gate_number (gate.LineTooLong line) = 5
gate_number (gate.NotText line) = 6
gate_number gate.TooManyLines = 7
gate_number gate.OutOfMemory = 8

abbrev pub of_arguments : ArgumentsError → LiveGateError
of_arguments arguments.NotText = errors.BadArguments
of_arguments arguments.OutOfMemory = errors.Gate gate.OutOfMemory

abbrev pub error_status : LiveGateError → ℕ
error_status errors.BadArguments = 9
error_status (errors.Gate e) = gate_number e
error_status errors.Rejected = 11
error_status errors.Unsupported = 12
error_status errors.NoSupervisor = 20
error_status errors.NoPlace = 21

abbrev pub end_status : Result (Unit {0}) LiveGateError → ℕ
end_status (Ok done) = 0
end_status (Err error) = error_status error

-- what is wrong, up to its number
abbrev pub message : LiveGateError → List ℕ
message errors.BadArguments = codes "bad words\n"
message (errors.Gate e) = codes "error "
message _ = codes "source error "

abbrev pub number : LiveGateError → Option ℕ
number errors.BadArguments = None
number (errors.Gate e) = Some (gate_number e)
number errors.Rejected = Some 1
number errors.Unsupported = Some 2
number errors.NoSupervisor = Some 10
number errors.NoPlace = Some 11

-- the line of an error, with its line feed
abbrev pub error_line : LiveGateError → List ℕ
error_line error = failure_line (codes "spf_gate: ") (message error) (number error)
