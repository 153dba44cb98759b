-- Frames (RFC 9113, section 4.1).
use Rattle.std.specs.Prelude.{◌≡◌, ℕ, ◌+◌, ◌%◌, ◌^◌, ◌≤◌, ◌<◌, nat_lt, nat_le, Bool, false, ◌||◌}
use Rattle.std.specs.Prelude.{IsFalse, List, [], ◌∷◌}
use Rattle.std.specs.Prelude.{◌++◌, length, drop, Option, None, Some}
use Rattle.std.specs.Prelude.{take, if◌then◌else◌}
use Rattle.std.specs.List.{flat_map}
use Rattle.std.specs.Option.{option_map_or}
use Rattle.spf_io.specs.Option.{◌>>=◌}
use Rattle.std.specs.Int.{w32, to_be_bytes, from_be_bytes}
use Rattle.spf_http2.specs.declared.header.FrameHeader.{FrameHeader}

-- Length (24)
abbrev pub length_text : ℕ → List ℕ
length_text n = drop 1 (to_be_bytes w32 n)

-- Length (24), Type (8), Flags (8), Reserved (1) and Stream Identifier (31)
unfoldable pub header_text : FrameHeader → List ℕ
header_text h = length_text h.length ++ h.kind ∷ h.flags ∷ to_be_bytes w32 h.word

-- the stream identifier; the reserved bit is ignored
abbrev pub stream_of : FrameHeader → ℕ
stream_of h = h.word % 2 ^ 31

-- a frame: its header and its payload
pub record Frame : Type 0 where
  pub header : FrameHeader
  pub payload : List ℕ

abbrev pub frame_text : Frame → List ℕ
frame_text f = header_text f.header ++ f.payload

-- the texts of frames, one after another
abbrev pub frames_text : List Frame → List ℕ
frames_text frames = flat_map frame_text frames

-- each part of the header fits its octets
pub record IsHeader (h : FrameHeader) : Type 0 where
  pub length : h.length < 2 ^ 24
  pub kind : h.kind < 2 ^ 8
  pub flags : h.flags < 2 ^ 8
  pub word : h.word < 2 ^ 32

-- the header says the length of the payload, which is not above the maximum
pub record IsFrame (f : Frame) : Type 0 where
  pub header : IsHeader f.header
  pub says : f.header.length ≡ length f.payload
  pub short : length f.payload ≤ 2 ^ 14

-- ---- octets that have come

-- the header that these octets begin with, where all of it has come
unfoldable pub header_at : List ℕ → Option FrameHeader
header_at (a ∷ b ∷ c ∷ kind ∷ flags ∷ d ∷ e ∷ f ∷ g ∷ rest) = Some (record {
  length = from_be_bytes w32 (0 ∷ a ∷ b ∷ c ∷ []);
  kind = kind;
  flags = flags;
  word = from_be_bytes w32 (d ∷ e ∷ f ∷ g ∷ []);
})
header_at _ = None

-- how many octets the frame takes, as far as these tell: its header, and then the payload too
abbrev pub octets_needed : List ℕ → ℕ
octets_needed bytes = option_map_or (λ (h : FrameHeader). 9 + h.length) (header_at bytes) 9

-- the header says a payload above the maximum length
abbrev pub is_too_long : List ℕ → Bool
is_too_long bytes =
    option_map_or (λ (h : FrameHeader). nat_lt (2 ^ 14) h.length) (header_at bytes) false

-- the octets say what they are: a whole frame, or one that is too long
abbrev pub is_told : List ℕ → Bool
is_told bytes = is_too_long bytes || nat_le (octets_needed bytes) (length bytes)

-- the octets are not a whole frame yet, and may become one
pub record IsShort (bytes : List ℕ) : Type 0 where
  pub missing : length bytes < octets_needed bytes
  pub allowed : IsFalse (is_too_long bytes)

-- the frame that these octets begin with, where it is whole and not too long, and what follows it
unfoldable pub frame_at : List ℕ → Option (Frame × List ℕ)
frame_at bytes =
    header_at bytes >>= λ h.
    if nat_lt (2 ^ 14) h.length || nat_lt (length bytes) (9 + h.length) then None
    else Some
    (record { header = h; payload = take h.length (drop 9 bytes) }, drop (9 + h.length) bytes)
