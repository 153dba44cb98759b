-- What a frame says by itself (RFC 9113, sections 6.1 to 6.10).
use Rattle.std.specs.Prelude.{ℕ, ◌-◌, ◌%◌, ◌^◌, ◌==◌, nat_lt, nat_le, not, Bool, true, false, ◌&&◌}
use Rattle.std.specs.Prelude.{◌||◌, if◌then◌else◌, bit_and, List, [], ◌∷◌, length, take, drop}
use Rattle.std.specs.Prelude.{Option, None, Some}
use Rattle.std.specs.Int.{w32, from_be_bytes}
use Rattle.spf_io.specs.Option.{◌>>=◌}
use Rattle.spf_http2.specs.declared.content.Content.{Content}
use Rattle.spf_http2.specs.declared.content.Content.TheVariants as seen
use Rattle.spf_http2.specs.declared.header.FrameHeader.{FrameHeader}
use Rattle.spf_http2.specs.declared.frame_type.TheConstants.{ACK, CONTINUATION, DATA, END_HEADERS}
use Rattle.spf_http2.specs.declared.frame_type.TheConstants.{END_STREAM, GOAWAY, HEADERS, PADDED}
use Rattle.spf_http2.specs.declared.frame_type.TheConstants.{PING, PRIORITY, PRIORITY_FIELDS}
use Rattle.spf_http2.specs.declared.frame_type.TheConstants.{PUSH_PROMISE, RST_STREAM, SETTINGS}
use Rattle.spf_http2.specs.declared.frame_type.TheConstants.{WINDOW_UPDATE}
use Rattle.spf_http2.specs.Frames.{Frame, stream_of}

-- what a frame says
pub data Meaning : Type 0 where
  Data : (octets : List ℕ) (ends_stream : Bool) → Meaning
  Headers : (fragment : List ℕ) (ends_headers : Bool) (ends_stream : Bool) → Meaning
  Continuation : (fragment : List ℕ) (ends_headers : Bool) → Meaning
  RstStream : (code : ℕ) → Meaning
  Settings : (pairs : List ℕ) → Meaning
  Ping : (octets : List ℕ) → Meaning
  Goaway : (last_stream : ℕ) → Meaning
  WindowUpdate : (increment : ℕ) → Meaning
  SettingsAck : Meaning
  Nothing : Meaning

-- the same of the code's own type
abbrev pub plain : Content → Meaning
plain (seen.Data octets ends_stream) = Data octets.now ends_stream
plain (seen.Headers fragment ends_headers ends_stream) =
    Headers fragment.now ends_headers ends_stream
plain (seen.Continuation fragment ends_headers) = Continuation fragment.now ends_headers
plain (seen.RstStream code) = RstStream code
plain (seen.Settings pairs) = Settings pairs.now
plain (seen.Ping octets) = Ping octets.now
plain (seen.Goaway last_stream) = Goaway last_stream
plain (seen.WindowUpdate increment) = WindowUpdate increment
plain seen.SettingsAck = SettingsAck
plain seen.Nothing = Nothing

abbrev pub is_set : FrameHeader → ℕ → Bool
is_set h flag = not (bit_and h.flags flag == 0)

-- the client opened the stream, where this is the last one that it did: its streams are odd
abbrev pub is_opened : ℕ → ℕ → Bool
is_opened opened stream = stream % 2 == 1 && nat_le stream opened

-- the number that the first four octets spell
abbrev pub word_at : List ℕ → Option ℕ
word_at (a ∷ b ∷ c ∷ d ∷ rest) = Some (from_be_bytes w32 (a ∷ b ∷ c ∷ d ∷ []))
word_at _ = None

-- section 6.1: where the frame is padded, the first octet is the length of the padding at the end
abbrev pub unpadded : Bool → List ℕ → Option (List ℕ)
unpadded false payload = Some payload
unpadded true [] = None
unpadded true (n ∷ rest) =
    if nat_lt (length rest) n then None else Some (take (length rest - n) rest)

-- section 6.2: a priority is five octets in front of the field block
abbrev pub without_priority : Bool → List ℕ → Option (List ℕ)
without_priority false octets = Some octets
without_priority true octets = if nat_lt (length octets) 5 then None else Some (drop 5 octets)

-- section 6.1
abbrev pub data_of : Frame → ℕ → Option Meaning
data_of f opened =
    if not (is_opened opened (stream_of f.header)) then None
    else unpadded (is_set f.header PADDED) f.payload >>= λ octets.
    Some (Data octets (is_set f.header END_STREAM))

-- section 6.2
abbrev pub headers_of : Frame → ℕ → Option Meaning
headers_of f opened =
    if not (is_opened opened (stream_of f.header)) then None
    else unpadded (is_set f.header PADDED) f.payload >>= λ octets.
    without_priority (is_set f.header PRIORITY_FIELDS) octets >>= λ fragment.
    Some (Headers fragment (is_set f.header END_HEADERS) (is_set f.header END_STREAM))

-- section 6.3
abbrev pub priority_of : Frame → Option Meaning
priority_of f =
    if stream_of f.header == 0 || not (length f.payload == 5) then None else Some Nothing

-- section 6.4
abbrev pub rst_stream_of : Frame → ℕ → Option Meaning
rst_stream_of f opened =
    if not (is_opened opened (stream_of f.header)) || not (length f.payload == 4) then None
    else word_at f.payload >>= λ code. Some (RstStream code)

-- section 6.5
abbrev pub settings_of : Frame → Option Meaning
settings_of f =
    if not (stream_of f.header == 0) then None
    else if is_set f.header ACK then (if length f.payload == 0 then Some SettingsAck else None)
    else if length f.payload % 6 == 0 then Some (Settings f.payload)
    else None

-- section 6.7
abbrev pub ping_of : Frame → Option Meaning
ping_of f =
    if not (stream_of f.header == 0) || not (length f.payload == 8) then None
    else if is_set f.header ACK then Some Nothing
    else Some (Ping f.payload)

-- section 6.8
abbrev pub goaway_of : Frame → Option Meaning
goaway_of f =
    if not (stream_of f.header == 0) || nat_lt (length f.payload) 8 then None
    else word_at f.payload >>= λ word. Some (Goaway (word % 2 ^ 31))

-- section 6.9
abbrev pub window_update_of : Frame → ℕ → Option Meaning
window_update_of f opened =
    if (not (stream_of f.header == 0) && not (is_opened opened (stream_of f.header)))
    || not (length f.payload == 4) then None
    else word_at f.payload >>= λ word.
    if word % 2 ^ 31 == 0 then None else Some (WindowUpdate (word % 2 ^ 31))

-- section 6.10
abbrev pub continuation_of : Frame → ℕ → Option Meaning
continuation_of f opened =
    if not (is_opened opened (stream_of f.header)) then None
    else Some (Continuation f.payload (is_set f.header END_HEADERS))

-- What a frame says, where this is the last stream that the client opened. None is a connection
-- error. A frame of an unknown type says nothing; PUSH_PROMISE (section 6.6) is not allowed, since
-- ENABLE_PUSH is 0.
abbrev pub meaning : Frame → ℕ → Option Meaning
meaning f opened =
    if f.header.kind == DATA then data_of f opened
    else if f.header.kind == HEADERS then headers_of f opened
    else if f.header.kind == PRIORITY then priority_of f
    else if f.header.kind == RST_STREAM then rst_stream_of f opened
    else if f.header.kind == SETTINGS then settings_of f
    else if f.header.kind == PUSH_PROMISE then None
    else if f.header.kind == PING then ping_of f
    else if f.header.kind == GOAWAY then goaway_of f
    else if f.header.kind == WINDOW_UPDATE then window_update_of f opened
    else if f.header.kind == CONTINUATION then continuation_of f opened
    else Some Nothing
