-- The frames of the messages of a body are read as the session that they stand for.
use Rattle.std.proofs.Common.{◌≡◌, ◌∙◌, ℕ, ◌+◌, ◌*◌, ◌^◌, ◌≤◌, ◌<◌, Bool, true, false, cond, List}
use Rattle.std.proofs.Common.{[]}
use Rattle.std.proofs.Common.{◌∷◌, ◌++◌, length, Option, Some, None, refl, sym, ap, subst, arith}
use Rattle.std.proofs.Common.{append_assoc, length-append}
use Rattle.std.specs.Prelude.{ℤ, pos, ◌&&◌, ◌||◌, is_some, nat_lt}
use Rattle.std.specs.Int.{w64, to_be_bytes, from_be_bytes}
use Rattle.std.specs.List.{AllByRecursion}
use Rattle.std.specs.Option.{option_map}
use Rattle.std.proofs.lemmas.Bool.Decides.{nat_tests}
use Rattle.std.proofs.lemmas.List.{append-nil}
use Rattle.std.proofs.lemmas.Nat.{from_be_bytes-to_be_bytes_8}
use Rattle.spf_x509.specs.Context.{Context}
use Rattle.spf_api.specs.declared.response.ContextResponse.{ContextResponse}
use Rattle.spf_api.specs.declared.response.Response.TheVariants as response
use Rattle.spf_api.specs.declared.response.ResponseKind.TheVariants as kinds
use Rattle.spf_api.specs.Layout.{IsContext, context_payload}
use Rattle.spf_api.specs.Payload.{IsRead, Payload}
use Rattle.spf_api.specs.Reading.{context_at}
use Rattle.spf_proto.proofs.TranslatingLemmas.{payload_read}
use Rattle.spf_frame.specs.declared.frame_kind.TheConstants.{CLIENT_MADE, CONNECTED, ITEM, MOMENT}
use Rattle.spf_view.specs.Frames.{raw_text}
use Rattle.spf_view.specs.Sessions.{IsFrame, IsReading, onto}
use Rattle.spf_view.specs.Views.{keep_if, brings, has_synced, last_moment}
use Rattle.spf_view.proofs.SessionLemmas.{IsOpen, IsPassing, reading_stuck}
use Rattle.spf_feed.specs.declared.event.SessionEvent.TheVariants as events
use Rattle.spf_feed.specs.declared.phase.Phase.{Phase}
use Rattle.spf_feed.specs.declared.phase.Phase.TheVariants as phases
use Rattle.spf_feed.specs.declared.turn.Terminal.{Terminal}
use Rattle.spf_feed.specs.Events.{event_at, moment_at, closes}
use Rattle.spf_feed.specs.Frames.{allows}
use Rattle.spf_feed.specs.Items.{Event, Rules, subject, context_in, picked, may_sync}
use Rattle.spf_feed.specs.Run.{ask_of, stream, terminal_of, timed_out}
use Rattle.spf_feed.specs.Steps.{fits}
use Rattle.spf_proto.specs.Translated.{events_before, translated, session_of, client_frames}
use Rattle.spf_proto.specs.Translated.{message_frames, moment_frame, is_accepted, Standing}
use Rattle.spf_proto.specs.Translated.{standing_after, frames_from}
use Rattle.spf_proto.proofs.LaidMessages.{HasPayload}

-- the same rules without a deadline
abbrev pub undated : Rules → Rules
undated rules = record {
  limits = rules.limits;
  deadline = None;
  ready = rules.ready;
  pick = rules.pick;
}

-- ---- where the session stands

accepted_is : (rules : Rules) (start : ℤ) (synced : Bool) (c : Option Context)
    → is_some
    (keep_if (λ m. synced || may_sync rules.ready m (Some start))
    (keep_if (fits rules.limits) (option_map (picked rules) c)))
    ≡ is_accepted (undated rules) start synced c
accepted_is rules start synced None = refl
accepted_is rules start synced (Some c) = refl

pub record StandsAt (rules : Rules) (start : ℤ) (past : List Event) (s : Standing) : Type 0 where
  pub ask : ask_of context_in rules past ≡ cond s.is_open phases.Next phases.Client
  pub synced : has_synced (subject rules) past ≡ s.synced
  pub moment : last_moment (subject rules) past ≡ Some start

after_item : (rules : Rules) (start : ℤ) (past : List Event) (s : Standing) (r : ContextResponse)
    → has_synced (subject rules) past ≡ s.synced → last_moment (subject rules) past ≡ Some start
    → StandsAt rules start (events.Item r ∷ past)
    (standing_after (undated rules) start s (context_in r))
after_item rules start past s r synced moment = record {
  ask = ap (λ (b : Bool). cond (b && is_some (context_in r)) phases.Next phases.Client) synced;
  synced = (λ i. is_some (brings (subject rules) (synced i) (moment i) (events.Item r)) || synced i)
      ∙ ap (λ (b : Bool). b || s.synced) (accepted_is rules start s.synced (context_in r));
  moment = moment;
}

abbrev before_item : List Event → Bool → List Event
before_item past is_open = onto past (events_before (cond is_open phases.Next phases.Client))

synced_before : (rules : Rules) (past : List Event) (is_open : Bool)
    → has_synced (subject rules) (before_item past is_open) ≡ has_synced (subject rules) past
unfolding onto
synced_before rules past true = refl
synced_before rules past false = refl

moment_before : (rules : Rules) (past : List Event) (is_open : Bool)
    → last_moment (subject rules) (before_item past is_open) ≡ last_moment (subject rules) past
unfolding onto
moment_before rules past true = refl
moment_before rules past false = refl

-- ---- frames

moment_read : (seconds : ℕ) → seconds < 2 ^ 63
    → moment_at (to_be_bytes w64 seconds) ≡ Some (pos seconds)
unfolding moment_at
moment_read seconds small =
    let back : from_be_bytes w64 (to_be_bytes w64 seconds) ≡ seconds =
    from_be_bytes-to_be_bytes_8 seconds (omega (arith, small)) in
    let fitting : nat_lt seconds (2 ^ 63) ≡ true = grind (arith, nat_tests, small) in
    ap (λ n. cond (nat_lt n (2 ^ 63)) (Some (pos n)) None) back
    ∙ ap (λ b. cond b (Some (pos seconds)) None) fitting

item_frame : (rules : Rules) (past : List Event) (r : ContextResponse)
    → ask_of context_in rules past ≡ phases.Next → HasPayload r
    → IsFrame (stream rules) past (raw_text ITEM (context_payload r)) (events.Item r)
unfolding event_at
item_frame rules past r ask payload = record {
  kind = ITEM;
  payload = context_payload r;
  text = refl;
  short = payload.short;
  allowed = ap (λ (p : Phase). allows p ITEM) ask;
  lays_out = ap (option_map events.Item) (payload_read r payload.laid);
}

client_frame : (rules : Rules) (past : List Event) → ask_of context_in rules past ≡ phases.Client
    → IsFrame (stream rules) past (raw_text CLIENT_MADE []) events.ClientMade
unfolding event_at
client_frame rules past ask = record {
  kind = CLIENT_MADE;
  payload = [];
  text = refl;
  short = omega arith;
  allowed = ap (λ (p : Phase). allows p CLIENT_MADE) ask;
  lays_out = refl;
}

connection_frame : (rules : Rules) (past : List Event)
    → IsFrame (stream rules) (events.ClientMade ∷ past) (raw_text CONNECTED []) events.Connected
unfolding event_at
connection_frame rules past = record {
  kind = CONNECTED;
  payload = [];
  text = refl;
  short = omega arith;
  allowed = refl;
  lays_out = refl;
}

unrefused : (synced : Bool) (t : Option Terminal) → t ≡ None → cond synced None t ≡ None
unrefused true t none = refl
unrefused false t none = none

passing : (rules : Rules) (past : List Event) (e : Event) → terminal_of rules.deadline e ≡ None
    → closes e ≡ false → IsPassing (stream rules) past e
passing rules past e none going = record {
  none = unrefused (has_synced (subject rules) past) (terminal_of rules.deadline e) none;
  going = going;
}

-- ---- one message

open_item : (rules : Rules) (past : List Event) (bytes : List ℕ) (es : List Event)
    (r : ContextResponse) → ask_of context_in rules past ≡ phases.Next → HasPayload r
    → IsOpen (stream rules) (events.Item r ∷ past) bytes es
    → IsOpen (stream rules) past (raw_text ITEM (context_payload r) ++ bytes) (events.Item r ∷ es)
unfolding IsOpen
open_item rules past bytes es r ask payload others = (
  raw_text ITEM (context_payload r),
  bytes,
  record { text = refl; frame = item_frame rules past r ask payload },
  passing rules past (events.Item r) refl refl,
  others,
)

open_client : (rules : Rules) (past : List Event) (bytes : List ℕ) (es : List Event)
    → ask_of context_in rules past ≡ phases.Client
    → IsOpen (stream rules) (events.Connected ∷ events.ClientMade ∷ past) bytes es
    → IsOpen (stream rules) past (client_frames ++ bytes)
    (events.ClientMade ∷ events.Connected ∷ es)
unfolding IsOpen client_frames
open_client rules past bytes es ask others = (
  raw_text CLIENT_MADE [],
  raw_text CONNECTED [] ++ bytes,
  record {
    text = append_assoc (raw_text CLIENT_MADE []) (raw_text CONNECTED []) bytes;
    frame = client_frame rules past ask;
  },
  passing rules past events.ClientMade refl refl,
  (
    raw_text CONNECTED [],
    bytes,
    record { text = refl; frame = connection_frame rules past },
    passing rules (events.ClientMade ∷ past) events.Connected refl refl,
    others,
  ),
)

one_message : (rules : Rules) (past : List Event) (is_open : Bool) (r : ContextResponse)
    (bytes : List ℕ) (es : List Event)
    → ask_of context_in rules past ≡ cond is_open phases.Next phases.Client → HasPayload r
    → IsOpen (stream rules) (events.Item r ∷ before_item past is_open) bytes es
    → IsOpen (stream rules) past (message_frames is_open r ++ bytes)
    (events_before (cond is_open phases.Next phases.Client) ++ events.Item r ∷ es)
unfolding message_frames onto
one_message rules past true r bytes es ask payload others =
    open_item rules past bytes es r ask payload others
one_message rules past false r bytes es ask payload others =
    subst (λ (l : List ℕ). IsOpen (stream rules) past l
    (events.ClientMade ∷ events.Connected ∷ events.Item r ∷ es))
    (sym (append_assoc client_frames (raw_text ITEM (context_payload r)) bytes))
    (open_client rules past (raw_text ITEM (context_payload r) ++ bytes) (events.Item r ∷ es) ask
    (open_item rules (events.Connected ∷ events.ClientMade ∷ past) bytes es r refl payload others))

-- ---- all of them

open_none : (rules : Rules) (past : List Event) → IsOpen (stream rules) past [] []
unfolding IsOpen
open_none rules past = refl

pub open_messages : (rules : Rules) (start : ℤ) (past : List Event) (s : Standing)
    (rs : List ContextResponse) → AllByRecursion HasPayload rs → StandsAt rules start past s
    → IsOpen (stream rules) past (frames_from (undated rules) start s rs)
    (translated rules past rs)
open_messages rules start past s [] each stands = open_none rules past
open_messages rules start past s (r ∷ rs) each stands =
    let next = standing_after (undated rules) start s (context_in r) in
    let bytes = frames_from (undated rules) start next rs in
    let others =
    open_messages rules start (events.Item r ∷ before_item past s.is_open) next rs each.1
    (after_item rules start (before_item past s.is_open) s r
    (synced_before rules past s.is_open ∙ stands.synced)
    (moment_before rules past s.is_open ∙ stands.moment)) in
    subst (λ (p : Phase). IsOpen (stream rules) past (message_frames s.is_open r ++ bytes)
    (events_before p
    ++ events.Item r ∷ translated rules (events.Item r ∷ onto past (events_before p)) rs))
    (sym stands.ask)
    (one_message rules past s.is_open r bytes
    (translated rules (events.Item r ∷ before_item past s.is_open) rs) stands.ask each.0 others)

-- before the first message
abbrev pub shut : Standing
shut = record { is_open = false; synced = false }

-- the frames of these messages, from a moment on
abbrev pub body_frames : Rules → ℕ → List ContextResponse → List ℕ
body_frames rules seconds ms =
    moment_frame seconds ++ frames_from (undated rules) (pos seconds) shut ms

pub open_session : (rules : Rules) (seconds : ℕ) (ms : List ContextResponse) → seconds < 2 ^ 63
    → timed_out rules.deadline (pos seconds) ≡ None → AllByRecursion HasPayload ms
    → IsOpen (stream rules) [] (body_frames rules seconds ms) (session_of rules (pos seconds) ms)
unfolding IsOpen moment_frame event_at
open_session rules seconds ms small early each = (
  moment_frame seconds,
  frames_from (undated rules) (pos seconds) shut ms,
  record {
    text = refl;
    frame = record {
      kind = MOMENT;
      payload = to_be_bytes w64 seconds;
      text = refl;
      short = omega arith;
      allowed = refl;
      lays_out = ap (option_map events.Moment) (moment_read seconds small);
    };
  },
  passing rules [] (events.Moment (pos seconds)) early refl,
  open_messages rules (pos seconds) (events.Moment (pos seconds) ∷ []) shut ms each
      (record { ask = refl; synced = refl; moment = refl }),
)

-- ---- how many events

few_before : (p : Phase) → length (events_before p) ≤ 2
few_before phases.Client = omega arith
few_before phases.Connect = omega arith
few_before phases.Next = omega arith

translated_length : (rules : Rules) (past : List Event) (rs : List ContextResponse)
    → length (translated rules past rs) ≤ 3 * length rs
translated_length rules past [] = omega arith
translated_length rules past (r ∷ rs) =
    let p = ask_of context_in rules past in
    let later = translated rules (events.Item r ∷ onto past (events_before p)) rs in
    omega (
      arith,
      few_before p,
      length-append (events_before p) (events.Item r ∷ later),
      translated_length rules (events.Item r ∷ onto past (events_before p)) rs,
    )

session_length : (rules : Rules) (start : ℤ) (ms : List ContextResponse)
    → length (session_of rules start ms) ≤ 1 + 3 * length ms
session_length rules start ms =
    omega (arith, translated_length rules (events.Moment start ∷ []) ms)

-- ---- the reading

no_frame : (rules : Rules) (past : List Event) (e : Event) (front rest : List ℕ)
    → IsFrame (stream rules) past front e → [] ≡ front ++ rest → ⊥
no_frame rules past e front rest frame is =
    let none : [] ≡ raw_text frame.kind frame.payload ++ rest =
    is ∙ ap (λ (l : List ℕ). l ++ rest) frame.text in
    absurd cc

pub read_session : (rules : Rules) (seconds : ℕ) (ms : List ContextResponse) (max_frames : ℕ)
    → IsOpen (stream rules) [] (body_frames rules seconds ms) (session_of rules (pos seconds) ms)
    → 1 + 3 * length ms ≤ max_frames
    → IsReading (stream rules) max_frames (body_frames rules seconds ms)
    (session_of rules (pos seconds) ms) []
read_session rules seconds ms max_frames going le =
    let es = session_of rules (pos seconds) ms in
    subst (λ (l : List ℕ). IsReading (stream rules) max_frames l es [])
    (append-nil (body_frames rules seconds ms))
    (reading_stuck (stream rules) max_frames (body_frames rules seconds ms) es [] going
    (omega (arith, le, session_length rules (pos seconds) ms))
    (λ e front rest frame is. no_frame rules (onto [] es) e front rest frame is))
