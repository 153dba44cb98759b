-- The exit status of a run, and its line on the error output.
use Rattle.std.specs.Prelude.{◌≡◌, ◌⊎◌, ℕ, ℤ, true, List, [], codes}
use Rattle.std.specs.Prelude.{Option, None, Some, IfSome, Result, Ok, Err}
use Rattle.spf_io.specs.Outside.{Rose}
use Rattle.spf_api.specs.declared.response.ContextResponse.{ContextResponse}
use Rattle.spf_view.specs.Sessions.{Grows, GrowsUpTo, all_of, onto}
use Rattle.spf_view.specs.Views.{has_synced}
use Rattle.spf_feed.specs.declared.ready.Ready.TheVariants as readiness
use Rattle.spf_feed.specs.Items.{Rules, rules_with, subject}
use Rattle.spf_feed.specs.Limits.{default_limits}
use Rattle.spf_feed.specs.Run.{stream, outputs}
use Rattle.spf_program.specs.Reports.{IsReported, failure_line, follow_message, follow_number}
use Rattle.spf_program.specs.Reports.{follow_status}
use Rattle.spf_program.specs.Streams.{Side, Streams}
use Rattle.spf_proto.specs.declared.proto_error.ProtoError.{ProtoError}
use Rattle.spf_proto.specs.declared.proto_error.ProtoError.TheVariants as errors
use Rattle.spf_proto.specs.Body.{body_within}
use Rattle.spf_proto.specs.BodyErrors.{RefusedFor}
use Rattle.spf_proto.specs.Following.{BodyFollowed, OutputState, HasCauses, OnlyThese}
use Rattle.spf_proto.specs.Translated.{session_of}

abbrev pub status : ProtoError → ℕ
status (errors.Follow e) = follow_status e
status errors.TooManyMessages = 5
status (errors.BadMessage number) = 6

-- what is wrong, up to the number of a bad message
abbrev pub message : ProtoError → List ℕ
message (errors.Follow e) = follow_message e
message errors.TooManyMessages = codes "too many messages\n"
message (errors.BadMessage at) = codes "bad message "

abbrev pub number : ProtoError → Option ℕ
number (errors.Follow e) = follow_number e
number errors.TooManyMessages = None
number (errors.BadMessage at) = Some at

-- the line of an error
abbrev pub error_line : ProtoError → List ℕ
error_line e = failure_line (codes "spf_proto: ") (message e) (number e)

abbrev pub status_of_end : Result ℕ ProtoError → ℕ
status_of_end (Ok count) = 0
status_of_end (Err e) = status e

abbrev pub line_of_end : Result ℕ ProtoError → List ℕ
line_of_end (Ok count) = []
line_of_end (Err e) = error_line e

-- the rules of the program: the default limits, no picker, and a usable first update
abbrev pub program_rules : Rules
program_rules = rules_with default_limits None readiness.Usable None

-- how many messages the program follows at most
abbrev pub max_messages : ℕ
max_messages = 1000000

-- what the output holds, where nothing keeps steps and records
abbrev pub shown : Side → OutputState
shown output = record { held = output.bytes; steps = None; records = None }

-- A body is followed from a moment on, and it ends like this.
pub record Follows (start : ℤ) (input input' output output' : Side)
    (end : Result ℕ ProtoError) : Type 0 where
  pub followed : BodyFollowed program_rules start max_messages input.bytes (shown output)
      (shown output') end
  pub refused : RefusedFor max_messages input.bytes end
  pub only : OnlyThese end
  pub cause : HasCauses input.failures input'.failures output.failures output'.failures end

-- A body is followed, and this is how it ended and was reported.
pub record Watches (start : ℤ) (before after : Streams) (n : ℕ) : Type 0 where
  pub end : Result ℕ ProtoError
  pub follows : Follows start before.input after.input before.output after.output end
  pub status : n ≡ status_of_end end
  pub line : IsReported before.errors after.errors (line_of_end end)

-- The arguments are those of the program, and a body is followed;
-- or they are not, nothing is read or written, and a line says so.
abbrev pub Runs : Option ℤ → Streams → Streams → ℕ → Type 0
Runs (Some start) before after n = Watches start before after n
Runs None before after n =
    (after.input ≡ before.input) × (after.output ≡ before.output)
    × IsReported before.errors after.errors (codes "spf_proto: bad words\n")

-- The bytes are whole messages, at most as many as the program follows, one of which is accepted.
pub record IsWholeBody (start : ℤ) (bytes : List ℕ) : Type 0 where
  pub messages : List ContextResponse
  pub reading : body_within max_messages bytes ≡ (messages, [])
  pub accepted : has_synced (subject program_rules)
      (onto [] (session_of program_rules start messages)) ≡ true

-- The bytes are a whole body, and the output grew by the lines of its session and nothing else.
pub record PrintsBody (start : ℤ) (held held' : Option (List ℕ)) (bytes : List ℕ) : Type 0 where
  pub body : IsWholeBody start bytes
  pub lines : Grows held held'
      (all_of (stream program_rules) (outputs program_rules).line []
      (session_of program_rules start body.messages))

-- the input, where its bytes are known, was a whole body, and its lines are the output
abbrev pub Headline : Option ℤ → Option (List ℕ) → Option (List ℕ) → Option (List ℕ) → Type 0
Headline None left held held' = Unit {0}
Headline (Some start) left held held' = IfSome left (PrintsBody start held held')

-- Whatever the end, the output grew by a beginning of the lines of the session that the bytes of
-- the input stand for, where they are known; without a moment it did not grow.
abbrev pub PrintsBeginning : Option ℤ → Option (List ℕ) → Option (List ℕ) → Option (List ℕ) → Type 0
PrintsBeginning None left held held' = held' ≡ held
PrintsBeginning (Some start) left held held' =
    IfSome left
    (λ bytes. GrowsUpTo held held'
    (all_of (stream program_rules) (outputs program_rules).line []
    (session_of program_rules start (body_within max_messages bytes).0)) true)

-- a whole body is followed to its end, or memory runs out, where neither input nor output failed
abbrev pub Completes : Option ℤ → Side → Side → Side → Side → ℕ → Type 0
Completes None input input' output output' n = Unit {0}
Completes (Some start) input input' output output' n =
    IfSome input.bytes
    (λ bytes. IsWholeBody start bytes → (Rose input.failures input'.failures → ⊥)
    → (Rose output.failures output'.failures → ⊥) → (n ≡ 0) ⊎ (n ≡ 2))
