-- Answers of the wire: which frame says what, and what was taken where there is none.
use Rattle.std.specs.Prelude.{◌≡◌, ℕ, Bool, ◌==◌, ◌||◌, ◌&&◌, IsTrue, List, []}
use Rattle.std.specs.Prelude.{Option, None, Some, Result, Ok, Err}
use Rattle.std.specs.List.{flat_map, AllByRecursion}
use Rattle.std.specs.Io.KnownBytes.{Consumes}
use Rattle.spf_view.specs.Frames.{FitsFrame, raw_text, frame_front}
use Rattle.spf_frame.specs.declared.frame_kind.TheConstants.{CONNECTED, CONNECT_STATUS, ITEM}
use Rattle.spf_frame.specs.declared.frame_kind.TheConstants.{ITEM_STATUS, STREAM_END}
use Rattle.spf_frame.specs.declared.error.FrameError.{FrameError}
use Rattle.spf_frame.specs.declared.error.FrameError.TheVariants as errors
use Rattle.spf_frame.specs.Parts.{PartFails}
use Rattle.spf_frame.specs.Status.{status_at}
use Rattle.spf_api.specs.Payload.{Payload}
use Rattle.spf_api.specs.Refused.{Refused}
use Rattle.spf_api.specs.declared.response.Response.{Response}
use Rattle.spf_api.specs.declared.response.ResponseKind.{ResponseKind}

-- ---- which frame says what

-- the kinds of frames that answer a start
abbrev pub starts : ℕ → Bool
starts kind = kind == CONNECTED || kind == CONNECT_STATUS

-- the kinds of frames of a stream
abbrev pub streams : ℕ → Bool
streams kind = kind == ITEM || kind == ITEM_STATUS || kind == STREAM_END

-- the kinds that are allowed at a start: after an earlier request, frames of its stream may come
-- first
abbrev pub may_start : Bool → ℕ → Bool
may_start again kind = starts kind || (again && streams kind)

-- what a frame says at a start: the request is started, or refused with a status; a frame of an
-- earlier stream says None, whatever its payload
abbrev pub SaysAtStart : Bool → ℕ → List ℕ → Option (Result (Unit {0}) Refused) → Type 0
SaysAtStart again kind payload None = IsTrue again × IsTrue (streams kind)
SaysAtStart again kind payload (Some (Ok _)) = (kind ≡ CONNECTED) × (payload ≡ [])
SaysAtStart again kind payload (Some (Err s)) =
    (kind ≡ CONNECT_STATUS) × (status_at payload ≡ Some s)

-- what a frame of a stream says, whose responses are of this kind: a response, the end, or a status
abbrev pub SaysInStream : ResponseKind → ℕ → List ℕ → Result (Option Response) Refused → Type 0
SaysInStream asked kind payload (Ok (Some r)) = (kind ≡ ITEM) × Payload asked payload r
SaysInStream asked kind payload (Ok None) = (kind ≡ STREAM_END) × (payload ≡ [])
SaysInStream asked kind payload (Err s) = (kind ≡ ITEM_STATUS) × (status_at payload ≡ Some s)

-- ---- reading an answer

-- a frame, and what it says
pub record Said (A : Type 0) : Type 0 where
  pub kind : ℕ
  pub payload : List ℕ
  pub answer : A

abbrev pub said_text : {A : Type 0} → Said A → List ℕ
said_text said = raw_text said.kind said.payload

-- the frame is not too long, and says so
pub record IsSaid {A : Type 0} (Says : ℕ → List ℕ → A → Type 0) (said : Said A) : Type 0 where
  pub short : FitsFrame said.payload
  pub says : Says said.kind said.payload said.answer

-- the answer was read, and its frame taken
pub record IsAnswered {A : Type 0} (Says : ℕ → List ℕ → A → Type 0) (old new : Option (List ℕ))
    (answer : A) : Type 0 where
  pub kind : ℕ
  pub payload : List ℕ
  pub short : FitsFrame payload
  pub taken : Consumes old new (raw_text kind payload)
  pub says : Says kind payload answer

-- Why no answer was read, and what was taken: no whole answer begins what is left (`BadFrame`), a
-- read failed, or memory ran out. It is never more than shows that there is none: the kind, where
-- it is not allowed; kind and length, where the length is too great; the whole frame, where its
-- payload lays out nothing; and all, where the source ends inside.
abbrev pub IsMissed : {A : Type 0} → (ℕ → List ℕ → A → Type 0) → (ℕ → Bool) → Option (List ℕ)
    → Option (List ℕ) → FrameError → Type 0
IsMissed Says kinds = PartFails said_text (IsSaid Says) (frame_front kinds)

abbrev pub AnswerRead : {A : Type 0} → (ℕ → List ℕ → A → Type 0) → (ℕ → Bool) → Option (List ℕ)
    → Option (List ℕ) → Result A FrameError → Type 0
AnswerRead Says kinds old new (Ok answer) = IsAnswered Says old new answer
AnswerRead Says kinds old new (Err e) = IsMissed Says kinds old new e

-- ---- passing over an earlier stream

-- whole frames of a stream, which only an earlier request leaves
abbrev pub IsPassed : Bool → List (ℕ × List ℕ) → Type 0
IsPassed again frames =
    AllByRecursion (λ (f : ℕ × List ℕ). IsTrue again × IsTrue (streams f.0) × FitsFrame f.1) frames

abbrev pub passed_text : List (ℕ × List ℕ) → List ℕ
passed_text frames = flat_map (λ (f : ℕ × List ℕ). raw_text f.0 f.1) frames

abbrev pub answering : {A E : Type 0} → Result A E → Result (Option A) E
answering (Ok answer) = Ok (Some answer)
answering (Err e) = Err e

-- The answer to a start, after frames that are passed over. Where there is none, no frame begins
-- the rest that could be passed over either.
pub record StartRead (again : Bool) (old new : Option (List ℕ))
    (r : Result (Result (Unit {0}) Refused) FrameError) : Type 0 where
  pub passed : List (ℕ × List ℕ)
  pub are : IsPassed again passed
  pub middle : Option (List ℕ)
  pub over : Consumes old middle (passed_text passed)
  pub read : AnswerRead (SaysAtStart again) (may_start again) middle new (answering r)

-- the answer in a stream; before the first start no kind is allowed
abbrev pub StreamRead : Option ResponseKind → Option (List ℕ) → Option (List ℕ)
    → Result (Result (Option Response) Refused) FrameError → Type 0
StreamRead None old new r = (r ≡ Err errors.BadFrame) × Consumes old new []
StreamRead (Some asked) old new r = AnswerRead (SaysInStream asked) streams old new r
