-- The session that the messages of a body stand for.
use Rattle.std.specs.Prelude.{ℕ, ℤ, Bool, false, ◌&&◌, ◌||◌, if◌then◌else◌, is_some}
use Rattle.std.specs.Prelude.{List, [], ◌∷◌, ◌++◌, Option, Some, None}
use Rattle.std.specs.Int.{w64, to_be_bytes}
use Rattle.spf_x509.specs.Context.{Context}
use Rattle.spf_api.specs.declared.response.ContextResponse.{ContextResponse}
use Rattle.spf_api.specs.Layout.{context_payload}
use Rattle.spf_view.specs.Frames.{raw_text}
unfoldable pub use Rattle.spf_view.specs.Frames.{sized}
use Rattle.spf_view.specs.Sessions.{onto}
use Rattle.spf_view.specs.Views.{keep_if}
use Rattle.spf_frame.specs.declared.frame_kind.TheConstants.{CLIENT_MADE, CONNECTED, ITEM, MOMENT}
use Rattle.spf_feed.specs.declared.event.SessionEvent.TheVariants as events
use Rattle.spf_feed.specs.declared.phase.Phase.{Phase}
use Rattle.spf_feed.specs.declared.phase.Phase.TheVariants as phases
use Rattle.spf_feed.specs.Items.{Event, Rules, context_in, picked, may_sync}
use Rattle.spf_feed.specs.Run.{ask_of}
use Rattle.spf_feed.specs.Steps.{fits}

-- what stands before an item: a client and its connection, where a client is asked for
abbrev pub events_before : Phase → List Event
events_before phases.Client = events.ClientMade ∷ events.Connected ∷ []
events_before phases.Connect = []
events_before phases.Next = []

-- the events of the messages after a history: an item for each
abbrev pub translated : Rules → List Event → List ContextResponse → List Event
translated rules past [] = []
translated rules past (r ∷ rs) =
    events_before (ask_of context_in rules past)
    ++ events.Item r
    ∷ translated rules
    (events.Item r ∷ onto past (events_before (ask_of context_in rules past))) rs

-- the session of the messages, which begins at a moment
abbrev pub session_of : Rules → ℤ → List ContextResponse → List Event
session_of rules start rs =
    events.Moment start ∷ translated rules (events.Moment start ∷ []) rs

-- ---- its frames

unfoldable pub client_frames : List ℕ
client_frames = raw_text CLIENT_MADE [] ++ raw_text CONNECTED []

-- the frames of a message, where the stream is open or not
unfoldable pub message_frames : Bool → ContextResponse → List ℕ
message_frames is_open r =
    (if is_open then [] else client_frames) ++ raw_text ITEM (context_payload r)

-- the frame of a moment, in Unix seconds
unfoldable pub moment_frame : ℕ → List ℕ
moment_frame seconds = raw_text MOMENT (to_be_bytes w64 seconds)

-- whether a context is accepted, after another one or not
abbrev pub is_accepted : Rules → ℤ → Bool → Option Context → Bool
is_accepted rules start synced None = false
is_accepted rules start synced (Some c) =
    is_some
    (keep_if (λ m. synced || may_sync rules.ready m (Some start))
    (keep_if (fits rules.limits) (Some (picked rules c))))

-- where a session stands: whether the stream is open, and whether something is accepted
pub record Standing : Type 0 where
  pub is_open : Bool
  pub synced : Bool

-- after a message with this context, where it breaks no rule
abbrev pub standing_after : Rules → ℤ → Standing → Option Context → Standing
standing_after rules start s c = record {
  is_open = s.synced && is_some c;
  synced = is_accepted rules start s.synced c || s.synced;
}

abbrev pub frames_from : Rules → ℤ → Standing → List ContextResponse → List ℕ
frames_from rules start s [] = []
frames_from rules start s (r ∷ rs) =
    message_frames s.is_open r
    ++ frames_from rules start (standing_after rules start s (context_in r)) rs
