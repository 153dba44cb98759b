-- How a message is translated.
use Rattle.std.specs.Prelude.{◌≡◌, ◌≤◌, ◌<◌, ◌+◌, ◌-◌, ◌^◌, ℕ, ℤ, Bool, true, false}
use Rattle.std.specs.Prelude.{if◌then◌else◌, List, [], ◌∷◌, ◌++◌, length, take, drop, Option, Some}
use Rattle.std.specs.Prelude.{IfSome, None}
use Rattle.std.specs.Int.{w32, to_be_bytes}
use Rattle.std.specs.Prelude.{Result, Ok, Err}
use Rattle.spf_proto.specs.declared.taking.Stop.{Stop}
use Rattle.spf_proto.specs.declared.taking.Stop.TheVariants as stops
unfoldable pub use Rattle.spf_api.specs.Layout.{field_text}
use Rattle.spf_feed.specs.Items.{Rules, context_in, item_at}
use Rattle.spf_api.specs.declared.response.ContextResponse.{ContextResponse}
use Rattle.spf_api.specs.Layout.{IsContext}
use Rattle.spf_frame.specs.declared.frame_kind.TheConstants.{ITEM}
use Rattle.spf_proto.specs.declared.translating.LastRead.{LastRead}
use Rattle.spf_proto.specs.declared.translating.Position.{Position}
use Rattle.spf_proto.specs.Body.{response_of}
unfoldable pub use Rattle.spf_proto.specs.Translated.{client_frames}
use Rattle.spf_proto.specs.Translated.{Standing, message_frames, standing_after}

abbrev pub standing : Position → Standing
standing p = record { is_open = p.is_open; synced = p.synced }

-- the frames of an item with this payload
unfoldable pub item_frames : Bool → List ℕ → List ℕ
item_frames is_open payload = (if is_open then [] else client_frames) ++ ITEM ∷ field_text payload

-- the payload of the item is as long as a frame may hold, and these are its frames; or it is longer
abbrev pub ArePut : Bool → List ℕ → List ℕ → Bool → Type 0
ArePut is_open payload frames true =
    (length payload ≤ 2 ^ 24) × (frames ≡ item_frames is_open payload)
ArePut is_open payload frames false = 2 ^ 24 < length payload

-- where the payload of an item begins: after the frames of a client, its kind and its length
abbrev pub payload_start : Bool → ℕ
payload_start is_open = if is_open then 5 else 15

-- where it is known where the payload begins that the held context was read from, these frames hold
-- it
abbrev pub IsKnown : LastRead → List ℕ → Type 0
IsKnown last frames = IfSome last.payload_at (λ at. item_at (drop at frames) ≡ Some last.context)

-- the length of what stands after four octets takes their place, unless no frame may hold so much
abbrev pub IsLengthPut : ℕ → List ℕ → List ℕ → Bool → Type 0
IsLengthPut at old new true =
    (length old ≤ at + 4 + 2 ^ 24)
    × (new ≡ take at old ++ to_be_bytes w32 (length old - at - 4) ++ drop (at + 4) old)
IsLengthPut at old new false = at + 4 + 2 ^ 24 < length old

-- the octets are a message, whose frames these are
pub record IsMade (rules : Rules) (start : ℤ) (before after : Position) (octets frames : List ℕ)
    : Type 0 where
  pub response : ContextResponse
  pub says : response_of octets ≡ Some response
  pub laid : IsContext response
  pub frames_are : frames ≡ message_frames before.is_open response
  pub standing_is : standing after
      ≡ standing_after rules start (standing before) (context_in response)

abbrev pub IsTranslated : Rules → ℤ → Position → List ℕ → List ℕ → Option Position → Type 0
IsTranslated rules start before octets frames None = response_of octets ≡ None
IsTranslated rules start before octets frames (Some after) =
    IsMade rules start before after octets frames

abbrev pub IsMadeOrStopped : Rules → ℤ → Position → List ℕ → List ℕ → Result Position Stop → Type 0
IsMadeOrStopped rules start before octets frames (Ok after) =
    IsMade rules start before after octets frames
IsMadeOrStopped rules start before octets frames (Err stops.BadMessage) = response_of octets ≡ None
IsMadeOrStopped rules start before octets frames (Err stops.OutOfMemory) = Unit {0}
IsMadeOrStopped rules start before octets frames (Err stops.TooManyMessages) = ⊥
IsMadeOrStopped rules start before octets frames (Err stops.SourceFailed) = ⊥
