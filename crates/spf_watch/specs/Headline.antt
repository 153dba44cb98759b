-- What `watch` does with a session of updates: the headline.
use Rattle.std.specs.Prelude.{◌≡◌, ◌⊎◌, ℕ, true, ◌==◌, ◌||◌, IsTrue, List, [], ◌∷◌, ◌++◌, length}
use Rattle.std.specs.Prelude.{Option, None, Some, IfSome, Result, Ok, Err, IfErr}
use Rattle.std.specs.Option.{option_map}
use Rattle.spf_view.specs.Sessions.{Stream, Outputs, IsReading, refusal_of, closed_of, onto, Ports}
use Rattle.spf_view.specs.Sessions.{Grows, Followed}
use Rattle.spf_feed.specs.declared.follow_error.FollowError.{FollowError}
use Rattle.spf_feed.specs.declared.record.MetricsRecord.{MetricsRecord}
use Rattle.spf_feed.specs.declared.turn.Terminal.{Terminal}
use Rattle.spf_feed.specs.Items.{Event, Rules, rules_with}
use Rattle.spf_feed.specs.Pick.{first_with_hint}
use Rattle.spf_feed.specs.Run.{stream, outputs, end_for}
use Rattle.spf_feed.specs.Steps.{PlainStep}
use Rattle.spf_jwt_feed.specs.declared.record.JwtMetricsRecord.{JwtMetricsRecord}
use Rattle.spf_jwt_feed.specs.Items as jwt_items
use Rattle.spf_jwt_feed.specs.Run as jwt_run
use Rattle.spf_jwt_feed.specs.Steps as jwt_steps
use Rattle.spf_watch.specs.declared.exit_reason.ExitReason.{ExitReason}
use Rattle.spf_watch.specs.declared.arguments.Command.{Command}
use Rattle.spf_watch.specs.declared.arguments.Command.TheVariants as commands
use Rattle.spf_watch.specs.declared.exit_reason.ExitReason.TheVariants as reasons
use Rattle.spf_watch.specs.declared.arguments.JwtArguments.{JwtArguments}
use Rattle.spf_watch.specs.declared.arguments.MakeArguments.{MakeArguments}
use Rattle.spf_program.specs.Reports.{IsReported}
use Rattle.spf_watch.specs.Causes.{reason_line, reason_of_error, is_output_failure}
use Rattle.spf_watch.specs.Causes.{status}
use Rattle.spf_watch.specs.MadeSession.{made_session}
use Rattle.spf_watch.specs.Setting.{Setting, default_setting}
use Rattle.spf_program.specs.Streams.{Failed, Streams}
use Rattle.spf_watch.specs.Summary.{summary}

-- the rules of a session of a setting: a hint, where one is set, picks the first SVID that has it
abbrev pub rules_for : Setting → Rules
rules_for setting =
    rules_with setting.limits setting.deadline setting.ready
    (option_map first_with_hint setting.hint)

-- What is followed: a stream of events, what they give, and the limit of frames.
pub record Session (E X Y : Type 0) : Type 0 where
  pub stream : Stream E Terminal
  pub outputs : Outputs E X Y
  pub max_frames : ℕ

-- a session of X.509 updates by a setting
abbrev pub x509_session : Setting → Session Event PlainStep MetricsRecord
x509_session setting = record {
  stream = stream (rules_for setting);
  outputs = outputs (rules_for setting);
  max_frames = setting.max_frames;
}

-- the rules of a session of JWT bundles by a setting
abbrev pub jwt_rules_for : JwtArguments → jwt_items.Rules
jwt_rules_for setting = record { limits = setting.limits; deadline = setting.deadline }

-- a session of JWT bundles by a setting
abbrev pub jwt_session : JwtArguments → Session jwt_items.Event jwt_steps.PlainStep JwtMetricsRecord
jwt_session setting = record {
  stream = jwt_run.stream (jwt_rules_for setting);
  outputs = jwt_run.outputs (jwt_rules_for setting);
  max_frames = setting.max_frames;
}

-- what a run has of the input and the output, where nothing keeps its steps and its records
abbrev pub ports : {X Y : Type 0} → Option (List ℕ) → Option (List ℕ) → Ports X Y
ports left held = record { left = left; held = held; steps = None; records = None }

-- A session is followed, from what the source has left and the sink holds before to what they do
-- after; steps and records are kept nowhere.
abbrev pub FollowedBy : {E X Y : Type 0} → Session E X Y → Option (List ℕ) → Option (List ℕ)
    → Option (List ℕ) → Option (List ℕ) → Result ℕ FollowError → Type 0
FollowedBy s left left' held held' answer =
    Followed s.stream s.outputs s.max_frames (ports left held) (ports left' held') (end_for answer)

-- how a run ends with the result of following, and its status
abbrev pub ended_by : Result ℕ FollowError → Result (Unit {0}) ExitReason
ended_by (Ok count) = Ok tt
ended_by (Err e) = Err (reason_of_error e)

abbrev pub status_of_end : Result (Unit {0}) ExitReason → ℕ
status_of_end (Ok done) = 0
status_of_end (Err f) = status f

-- A session is followed, and the run ends as the result says.
pub record FollowsSession {E X Y : Type 0} (s : Session E X Y)
    (left left' held held' : Option (List ℕ)) (r : Result (Unit {0}) ExitReason) : Type 0 where
  pub answer : Result ℕ FollowError
  pub followed : FollowedBy s left left' held held' answer
  pub is : r ≡ ended_by answer

-- the lines of these events after a history, one for each
abbrev pub lines_of : {E X Y : Type 0} → Outputs E X Y → List E → List E → List ℕ
lines_of o past [] = []
lines_of o past (e ∷ es) = o.line past e ++ lines_of o (e ∷ past) es

-- The bytes begin with a whole session within the bound.
pub record IsWholeSession {E X Y : Type 0} (s : Session E X Y) (bytes : List ℕ) : Type 0 where
  -- the events of the session, and what follows them
  pub es : List E
  pub rest : List ℕ
  pub reading : IsReading s.stream s.max_frames bytes es rest
  -- some event is accepted, and none ends the session before
  pub accepted : s.stream.synced (onto [] es) ≡ true
  pub calm : refusal_of s.stream [] es ≡ None
  -- the last event is a close, or nothing follows
  pub whole : IsTrue (closed_of s.stream es || length rest == 0)

-- The bytes begin with a whole session, and the output grew by its lines and nothing else.
pub record PrintsSession {E X Y : Type 0} (s : Session E X Y) (bytes : List ℕ)
    (held held' : Option (List ℕ)) : Type 0 where
  pub session : IsWholeSession s bytes
  pub lines : Grows held held' (lines_of s.outputs [] session.es)

-- A text is put and nothing else; otherwise memory runs out, or the output fails.
pub record Puts (IsText : List ℕ → Type 0) (held held' : Option (List ℕ))
    (r : Result (Unit {0}) ExitReason) : Type 0 where
  pub text : r ≡ Ok tt → (t : List ℕ) × IsText t × Grows held held' t
  pub failure : IfErr r (λ reason. is_output_failure reason ≡ true)

-- The text is the summary of the generated session of these arguments, which is a whole one.
pub record IsSummary (arguments : MakeArguments) (text : List ℕ) : Type 0 where
  pub session : IsWholeSession (x509_session default_setting) (made_session arguments)
  pub is : text ≡ summary (rules_for default_setting) session.es

-- What a run does that its arguments ask for: a session is followed; a generated session, or its
-- summary, is put and nothing is read; where they are bad, nothing is read or put.
abbrev pub Does : Option Command → Streams → Streams → Result (Unit {0}) ExitReason → Type 0
Does (Some (commands.X509 setting)) before after end =
    FollowsSession (x509_session setting) before.input.bytes after.input.bytes before.output.bytes
    after.output.bytes end
Does (Some (commands.Jwt setting)) before after end =
    FollowsSession (jwt_session setting) before.input.bytes after.input.bytes before.output.bytes
    after.output.bytes end
Does (Some (commands.Make arguments)) before after end =
    (after.input.bytes ≡ before.input.bytes)
    × Puts (λ text. text ≡ made_session arguments) before.output.bytes after.output.bytes end
Does (Some (commands.Bench arguments)) before after end =
    (after.input.bytes ≡ before.input.bytes)
    × Puts (IsSummary arguments) before.output.bytes after.output.bytes end
Does None before after end =
    (after.input.bytes ≡ before.input.bytes) × (after.output.bytes ≡ before.output.bytes)
    × (end ≡ Err reasons.BadArguments)

-- the line that a run ends with; none where it ends well
abbrev pub line_of_end : Result (Unit {0}) ExitReason → List ℕ
line_of_end (Ok done) = []
line_of_end (Err reason) = reason_line reason

-- A run did this, ended with this status, and reported it.
pub record Ended (command : Option Command) (before after : Streams) (n : ℕ) : Type 0 where
  pub end : Result (Unit {0}) ExitReason
  pub does : Does command before after end
  pub status : n ≡ status_of_end end
  pub line : IsReported before.errors after.errors (line_of_end end)

-- The headline: the input of a session, where its bytes are known,
-- held a whole session, and the output is one line for each event.
abbrev pub Headline : Option Command → Streams → Streams → Type 0
Headline (Some (commands.X509 setting)) before after =
    IfSome before.input.bytes
    (λ bytes. PrintsSession (x509_session setting) bytes before.output.bytes after.output.bytes)
Headline (Some (commands.Jwt setting)) before after =
    IfSome before.input.bytes
    (λ bytes. PrintsSession (jwt_session setting) bytes before.output.bytes after.output.bytes)
Headline _ before after = Unit {0}

-- Completeness: an input that holds a whole session is followed to its end, or memory runs out;
-- where the input or the output failed, nothing is said.
abbrev pub CompletesSession : {E X Y : Type 0} → Session E X Y → Streams → Streams → ℕ → Type 0
CompletesSession s before after n =
    IfSome before.input.bytes
    (λ bytes. IsWholeSession s bytes → (Failed before.input after.input → ⊥)
    → (Failed before.output after.output → ⊥) → (n ≡ 0) ⊎ (n ≡ 2))

abbrev pub Completes : Option Command → Streams → Streams → ℕ → Type 0
Completes (Some (commands.X509 setting)) before after n =
    CompletesSession (x509_session setting) before after n
Completes (Some (commands.Jwt setting)) before after n =
    CompletesSession (jwt_session setting) before after n
Completes _ before after n = Unit {0}
