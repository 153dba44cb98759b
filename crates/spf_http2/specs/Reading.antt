-- Reading frames from a source through a buffer.
use Rattle.std.specs.Prelude.{◌≡◌, ℕ, ◌+◌, IsTrue, List, [], ◌++◌, length, Option, None, Some}
use Rattle.std.specs.Prelude.{Result, Ok, Err, MatchResult}
use Rattle.std.specs.Io.KnownBytes.{Consumes, IsAtEnd, Keeps, prepend_known}
use Rattle.spf_http2.specs.declared.error.ReadError.{ReadError}
use Rattle.spf_http2.specs.declared.error.ReadError.TheVariants as errors
use Rattle.spf_http2.specs.declared.header.FrameHeader.{FrameHeader}
use Rattle.spf_http2.specs.Frames.{Frame, IsFrame, IsShort, frame_text, is_too_long}

-- a buffer: the payload of the last frame, the octets that came and were not read as frames, and
-- how many more fit behind them
pub record Buffered : Type 0 where
  pub payload : List ℕ
  pub pending : List ℕ
  pub room : ℕ

-- the octets to come, where those of the source are known: first what is pending
abbrev pub to_come : Buffered → Option (List ℕ) → Option (List ℕ)
to_come b left = prepend_known b.pending left

-- octets came behind what was pending
pub record HasGrown (old new : List ℕ) : Type 0 where
  pub come : List ℕ
  pub is : new ≡ old ++ come

-- `n` octets came
pub record HasCome (old new : Buffered) (n : ℕ) : Type 0 where
  pub grown : HasGrown old.pending new.pending
  pub pending : length new.pending ≡ length old.pending + n
  pub room : new.room + n ≡ old.room

-- so many octets came as the read says, and none where it failed
abbrev pub ReadCame : {E : Type 0} → Buffered → Buffered → Result ℕ E → Type 0
ReadCame old new r = MatchResult r (λ n. HasCome old new n) (λ _. new ≡ old)

-- the frame of a header, whose payload stands in the buffer
abbrev pub frame_of : FrameHeader → Buffered → Frame
frame_of h b = record { header = h; payload = b.payload }

-- What a read of a frame does to the octets to come, `before` and `now`, and what it leaves in the
-- buffer. A frame is taken whole. Otherwise nothing is: the octets that came are pending. They are
-- none at the end of input, say a frame that is too long, or the beginning of a frame, where the
-- input ends or a read failed.
abbrev pub FrameRead : Option (List ℕ) → Buffered → Option (List ℕ)
    → Result (Option FrameHeader) ReadError → Type 0
FrameRead before b left (Ok (Some h)) =
    IsFrame (frame_of h b) × Consumes before (to_come b left) (frame_text (frame_of h b))
FrameRead before b left (Ok None) = Keeps before (to_come b left) × (b.pending ≡ []) × IsAtEnd left
FrameRead before b left (Err errors.TooLong) =
    Keeps before (to_come b left) × IsTrue (is_too_long b.pending)
FrameRead before b left (Err errors.CutOff) =
    Keeps before (to_come b left) × IsShort b.pending × IsAtEnd left
FrameRead before b left (Err errors.ReadFault) =
    Keeps before (to_come b left) × IsShort b.pending
