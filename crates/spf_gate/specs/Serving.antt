-- Answering the asks of an input.
use Rattle.std.specs.Prelude.{◌≡◌, ℕ, ◌≤◌, Bool, true, false, ◌⊎◌, List, [], ◌∷◌, ◌++◌}
use Rattle.std.specs.Prelude.{length, take, Option, Some, None, IfSome, Result, Ok, Err, IsErrOf}
use Rattle.std.specs.Io.KnownBytes.{Appends}
use mathlib.Core.List.{IsPrefix}
use Rattle.spf_io.specs.Outside.{Rose}
use Rattle.spf_board.specs.Passes.{Renews}
use Rattle.spf_feed.specs.Steps.{StateView}
use Rattle.spiffe.specs.Passes.{PassView, Seen, read_of}
use Rattle.spiffe.specs.Reads.{SeesNoLess}
use Rattle.spiffe.specs.States.{IsStateOf}
use Rattle.spiffe.specs.Steps.{Legal}
use Rattle.spf_gate.specs.declared.rule.Rule.{Rule}
use Rattle.spf_gate.specs.declared.gate_error.GateError.{GateError}
use Rattle.spf_gate.specs.declared.gate_error.GateError.TheVariants as errors
use Rattle.spf_gate.specs.Answers.{answer_line}
use Rattle.spf_gate.specs.Lines.{lines_of}
use Rattle.spf_gate.specs.Policies.{NotEnded, Policy, policy_of, asks_rule, asks_before}
use Rattle.spf_gate.specs.Reading.{HasNoFeed}

-- The text is one line for each ask, in order. For each the pass reads once more, and the line is
-- written by a state of what it has seen then. After the last line it is as that read left it.
abbrev pub AreAnswers : List Rule → PassView → List (List ℕ) → List ℕ → PassView → Type 0
AreAnswers rules pass [] text pass' = (text ≡ []) × (pass' ≡ pass)
AreAnswers rules pass (ask ∷ asks) text pass' =
    (read : PassView) × (state : StateView) × Renews Legal (read_of pass) (read_of read)
    × IsStateOf read.seen state.closed state
    × (rest : List ℕ) × (text ≡ answer_line rules state ask ++ rest)
    × AreAnswers rules read asks rest pass'

-- the pass has read once more, unless memory ran out
abbrev pub ReadsOnce : {T : Type 0} → PassView → PassView → Result T GateError → Type 0
ReadsOnce old new (Err errors.OutOfMemory) = Unit {0}
ReadsOnce old new _ = Renews Legal (read_of old) (read_of new)

-- the line that answers an ask is written, by a state that was read of what the pass has seen
abbrev pub AnswersAsk : List Rule → Seen → List ℕ → Option (List ℕ) → Option (List ℕ) → Type 0
AnswersAsk rules seen ask held held' =
    (state : StateView) × IsStateOf seen state.closed state
    × Appends held held' (answer_line rules state ask)

-- What an error leaves of the line that answers an ask: nothing where memory ran out, and a
-- beginning of it where a write failed.
abbrev pub AnswersPart : List Rule → Seen → List ℕ → Option (List ℕ) → Option (List ℕ)
    → GateError → Type 0
AnswersPart rules seen ask held held' errors.OutOfMemory = held' ≡ held
AnswersPart rules seen ask held held' errors.WriteFault =
    (state : StateView) × IsStateOf seen state.closed state
    × (size : ℕ) × Appends held held' (take size (answer_line rules state ask))
AnswersPart rules seen ask held held' _ = ⊥

-- ---- the asks

-- the errors after which the line of an ask may be cut or missing
abbrev pub cuts : GateError → Bool
cuts errors.WriteFault = true
cuts errors.OutOfMemory = true
cuts _ = false

abbrev pub is_cut : {T : Type 0} → Result T GateError → Bool
is_cut (Ok x) = false
is_cut (Err e) = cuts e

-- What the asks are, where the bytes are known: all lines that are left, those before one that
-- breaks a rule, or those that were read before the source failed.
abbrev pub AreAsks : ℕ → ℕ → Option (List ℕ) → Option (List ℕ) → List (List ℕ) → Result ℕ GateError
    → Type 0
AreAsks max first None new asks r = Unit {0}
AreAsks max first (Some old) None asks r = ⊥
AreAsks max first (Some old) (Some new) asks (Ok count) =
    (lines_of old ≡ asks) × (asks_rule max first asks ≡ Ok tt) × (count ≡ length asks)
AreAsks max first (Some old) (Some new) asks (Err errors.ReadFault) =
    (lines_of old ≡ asks ++ lines_of new) × (asks_rule max first asks ≡ Ok tt)
AreAsks max first (Some old) (Some new) asks (Err e) =
    (asks_before max first (lines_of old) ≡ asks) × (asks_rule max first (lines_of old) ≡ Err e)

-- asks are answered, one line for each
pub record ServesAsks (max first : ℕ) (old new : Option (List ℕ)) (rules : List Rule)
    (pass pass' : PassView) (held held' : Option (List ℕ)) (r : Result ℕ GateError)
    : Type 0 where
  pub asks : List (List ℕ)
  pub text : List ℕ
  pub written : Appends held held' text
  pub answers : AreAnswers rules pass asks text pass'
  pub asks_are : AreAsks max first old new asks r

-- asks are the first of these, and keep the rules of lines
abbrev pub AreFirst : ℕ → ℕ → List (List ℕ) → List (List ℕ) → Type 0
AreFirst max first asks all = IsPrefix asks all × (asks_rule max first asks ≡ Ok tt)

-- Answering was cut: what is written is a beginning of the answers to the first asks. Memory that
-- ran out cuts no line; the pass may then have read again, for the ask that has no answer.
pub record ServesFirst (max first : ℕ) (old : Option (List ℕ)) (rules : List Rule)
    (pass pass' : PassView) (held held' : Option (List ℕ)) (e : GateError) : Type 0 where
  pub asks : List (List ℕ)
  pub text : List ℕ
  pub last : PassView
  pub answers : AreAnswers rules pass asks text last
  pub later : SeesNoLess last pass'
  pub size : ℕ
  pub written : Appends held held' (take size text)
  pub whole : e ≡ errors.OutOfMemory → size ≡ length text
  pub asks_are : IfSome old (λ bytes. AreFirst max first asks (lines_of bytes))

-- ---- the whole input

-- The source failed with `coming` to come: what it gave of a line that has not ended, and what it
-- has left. All asks before that are these, or the policy has not ended.
abbrev pub AreReadUntil : ℕ → List ℕ → List ℕ → List Rule → List (List ℕ) → Type 0
AreReadUntil max bytes coming rules asks =
    ((asks ≡ []) × NotEnded max 1 bytes coming)
    ⊎ ((p : Policy) × (policy_of max 1 (lines_of bytes) ≡ Ok p) × (p.rules ≡ rules)
    × (p.asks ≡ asks ++ lines_of coming) × (asks_rule max p.first asks ≡ Ok tt))

-- What the rules and the asks of an input are: those that stand before the first broken rule, which
-- fixes the error; or, where the source failed, those whose lines it had given whole.
abbrev pub AreRead : ℕ → List ℕ → Option (List ℕ) → List Rule → List (List ℕ) → Result ℕ GateError
    → Type 0
AreRead max bytes left rules asks (Ok count) =
    (p : Policy) × (policy_of max 1 (lines_of bytes) ≡ Ok p) × (p.rules ≡ rules)
    × (p.asks ≡ asks) × (asks_rule max p.first asks ≡ Ok tt) × (count ≡ length asks)
AreRead max bytes left rules asks (Err errors.ReadFault) =
    IfSome left (λ rest. (begun : List ℕ) × HasNoFeed begun
    × AreReadUntil max bytes (begun ++ rest) rules asks)
AreRead max bytes left rules asks (Err e) =
    ((asks ≡ []) × (policy_of max 1 (lines_of bytes) ≡ Err e))
    ⊎ ((p : Policy) × (policy_of max 1 (lines_of bytes) ≡ Ok p) × (p.rules ≡ rules)
    × (asks_before max p.first p.asks ≡ asks) × (asks_rule max p.first p.asks ≡ Err e))

-- The asks of an input are answered by the rules of its policy.
pub record Serves (max : ℕ) (left left' : Option (List ℕ)) (pass pass' : PassView)
    (held held' : Option (List ℕ)) (r : Result ℕ GateError) : Type 0 where
  pub rules : List Rule
  pub asks : List (List ℕ)
  pub text : List ℕ
  pub written : Appends held held' text
  pub answers : AreAnswers rules pass asks text pass'
  pub read : IfSome left (λ bytes. AreRead max bytes left' rules asks r)

-- The asks are the first of an input, whose policy has these rules; or they are none.
abbrev pub AreReadFirst : ℕ → List ℕ → List Rule → List (List ℕ) → Type 0
AreReadFirst max bytes rules asks =
    (asks ≡ [])
    ⊎ ((p : Policy) × (policy_of max 1 (lines_of bytes) ≡ Ok p) × (p.rules ≡ rules)
    × AreFirst max p.first asks p.asks)

-- A run was cut: what is written is a beginning of the answers to the first asks of the input.
-- Memory that ran out cuts no line.
pub record ServesPart (max : ℕ) (left : Option (List ℕ)) (pass pass' : PassView)
    (held held' : Option (List ℕ)) (e : GateError) : Type 0 where
  pub rules : List Rule
  pub asks : List (List ℕ)
  pub text : List ℕ
  pub last : PassView
  pub answers : AreAnswers rules pass asks text last
  pub later : SeesNoLess last pass'
  pub size : ℕ
  pub written : Appends held held' (take size text)
  pub whole : e ≡ errors.OutOfMemory → size ≡ length text
  pub read : IfSome left (λ bytes. AreReadFirst max bytes rules asks)

-- the count never falls, and `WriteFault` comes only where it rose
pub record PutHasCause {T : Type 0} (before now : ℕ) (r : Result T GateError) : Type 0 where
  pub later : before ≤ now
  pub failed : IsErrOf r errors.WriteFault → Rose before now

-- a failure comes only where its count rose
pub record HasCauses (reads reads' writes writes' : ℕ) (r : Result ℕ GateError) : Type 0 where
  pub reads_later : reads ≤ reads'
  pub writes_later : writes ≤ writes'
  pub read : IsErrOf r errors.ReadFault → Rose reads reads'
  pub write : IsErrOf r errors.WriteFault → Rose writes writes'
