-- Frames of a session, and the kinds that each phase allows.
use Rattle.std.specs.Prelude.{ℕ, Bool, ◌==◌, ◌||◌, List, Option, Result}
unfoldable pub use Rattle.spf_view.specs.Frames.{sized, sized_front, frame_front}
pub use Rattle.spf_view.specs.Frames.{FitsFrame, raw_text}
pub use Rattle.spf_frame.specs.Frames.{Unread, with_payload}
use Rattle.spf_frame.specs.Frames as frames
use Rattle.spf_frame.specs.declared.frame.RawFrame.{RawFrame}
use Rattle.spf_frame.specs.declared.error.FrameError.{FrameError}
use Rattle.spf_frame.specs.declared.frame_kind.TheConstants.{CLIENT_MADE, CLIENT_FAILED, CONNECTED}
use Rattle.spf_frame.specs.declared.frame_kind.TheConstants.{CONNECT_STATUS, ITEM, ITEM_STATUS}
use Rattle.spf_frame.specs.declared.frame_kind.TheConstants.{STREAM_END, MOMENT, CLOSE}
use Rattle.spf_feed.specs.declared.phase.Phase.{Phase}
use Rattle.spf_feed.specs.declared.phase.Phase.TheVariants as phases

-- the allowed kinds
abbrev pub allows : Phase → ℕ → Bool
allows phases.Client kind =
    kind == CLIENT_MADE || kind == CLIENT_FAILED || kind == MOMENT || kind == CLOSE
allows phases.Connect kind =
    kind == CONNECTED || kind == CONNECT_STATUS || kind == MOMENT || kind == CLOSE
allows phases.Next kind =
    kind == ITEM || kind == ITEM_STATUS || kind == STREAM_END || kind == MOMENT || kind == CLOSE

-- no frame of an allowed kind begins these bytes
abbrev pub NoFrame : Phase → List ℕ → Type 0
NoFrame phase = frames.NoFrame (allows phase)

-- the frame that was read
abbrev pub IsRead : Phase → Bool → Option (List ℕ) → Option (List ℕ) → RawFrame → Type 0
IsRead phase = frames.IsRead (allows phase)

-- why no frame was read, and what was taken
abbrev pub IsUnread : Phase → Bool → Option (List ℕ) → Option (List ℕ) → FrameError → Type 0
IsUnread phase = frames.IsUnread (allows phase)

abbrev pub FrameRead : Phase → Bool → Option (List ℕ) → Option (List ℕ)
    → Result (Option RawFrame) FrameError → Type 0
FrameRead phase = frames.FrameRead (allows phase)
