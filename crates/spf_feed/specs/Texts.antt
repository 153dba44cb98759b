-- Which octets are the text of a status, a client failure, a moment, an event and a frame.
use Rattle.std.specs.Prelude.{◌≡◌, ℕ, ◌<◌, ◌^◌, ℤ, pos, List, [], ◌∷◌, None}
use Rattle.std.specs.List.{AllByRecursion}
use Rattle.std.specs.Int.{w64, to_be_bytes}
use Rattle.spf_api.specs.Layout.{field_text, IsText}
use Rattle.spf_api.specs.Payload.{Payload}
use Rattle.spf_api.specs.Refused.{Refused}
use Rattle.spf_api.specs.Status.{code_number}
use Rattle.spf_api.specs.declared.link.ClientFault.{ClientFault}
use Rattle.spf_api.specs.declared.link.ClientFault.TheVariants as fault
use Rattle.spf_api.specs.declared.response.ContextResponse.{ContextResponse}
use Rattle.spf_api.specs.declared.response.Response.TheVariants as response
use Rattle.spf_api.specs.declared.response.ResponseKind.TheVariants as kinds
use Rattle.spf_view.specs.Frames.{FitsFrame, raw_text}
use Rattle.spf_frame.specs.declared.frame_kind.TheConstants.{CLIENT_MADE, CLIENT_FAILED, CONNECTED}
use Rattle.spf_frame.specs.declared.frame_kind.TheConstants.{CONNECT_STATUS, ITEM, ITEM_STATUS}
use Rattle.spf_frame.specs.declared.frame_kind.TheConstants.{STREAM_END, MOMENT, CLOSE}
use Rattle.spf_feed.specs.declared.event.SessionEvent.{SessionEvent}
use Rattle.spf_feed.specs.declared.event.SessionEvent.TheVariants as events

-- each is an octet
abbrev pub AreOctets : List ℕ → Type 0
AreOctets = AllByRecursion (λ b. b < 256)

-- a text field and nothing more
pub record FieldText (bytes text : List ℕ) : Type 0 where
  pub is_text : IsText text
  pub octets : bytes ≡ field_text text

-- a status: the octet of its code, and its message
pub record StatusText (bytes : List ℕ) (s : Refused) : Type 0 where
  pub message : IsText s.message
  pub no_source : s.source ≡ None
  pub octets : bytes ≡ code_number s.code ∷ field_text s.message

-- a client failure: a status, or the octet 255 and a text
abbrev pub FailureText : List ℕ → ClientFault → Type 0
FailureText bytes (fault.Status s) = StatusText bytes s
FailureText bytes (fault.Unreachable text) = IsText text × (bytes ≡ 255 ∷ field_text text)
FailureText bytes fault.OutOfMemory = ⊥

-- a moment: eight octets of Unix seconds, from 0 to 2^63 - 1
pub record MomentText (bytes : List ℕ) (moment : ℤ) : Type 0 where
  pub seconds : ℕ
  pub fits : seconds < 2 ^ 63
  pub is : moment ≡ pos seconds
  pub octets : bytes ≡ to_be_bytes w64 seconds

-- an event: the kind of its frame and its payload, where
-- `ItemText` says which octets are the text of an item
abbrev pub EventText : {I : Type 0} → (List ℕ → I → Type 0) → ℕ → List ℕ → SessionEvent I → Type 0
EventText ItemText kind payload events.ClientMade = (kind ≡ CLIENT_MADE) × (payload ≡ [])
EventText ItemText kind payload (events.ClientFailed e) =
    (kind ≡ CLIENT_FAILED) × FailureText payload e
EventText ItemText kind payload events.Connected = (kind ≡ CONNECTED) × (payload ≡ [])
EventText ItemText kind payload (events.ConnectStatus s) =
    (kind ≡ CONNECT_STATUS) × StatusText payload s
EventText ItemText kind payload (events.Item i) = (kind ≡ ITEM) × ItemText payload i
EventText ItemText kind payload (events.ItemStatus s) = (kind ≡ ITEM_STATUS) × StatusText payload s
EventText ItemText kind payload events.StreamEnd = (kind ≡ STREAM_END) × (payload ≡ [])
EventText ItemText kind payload (events.Moment m) = (kind ≡ MOMENT) × MomentText payload m
EventText ItemText kind payload events.Close = (kind ≡ CLOSE) × (payload ≡ [])

-- an item of an X.509 session: the payload of a response
abbrev pub ItemText : List ℕ → ContextResponse → Type 0
ItemText bytes r = Payload kinds.Context bytes (response.Context r)

-- A frame of an event: its kind, four octets of length, and its payload of at most 2^24 octets.
pub record FrameText {I : Type 0} (ItemText : List ℕ → I → Type 0) (bytes : List ℕ)
    (e : SessionEvent I) : Type 0 where
  pub kind : ℕ
  pub payload : List ℕ
  pub fits : FitsFrame payload
  pub event : EventText ItemText kind payload e
  pub octets : bytes ≡ raw_text kind payload
