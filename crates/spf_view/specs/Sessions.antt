-- Sessions: frames that each lay out an event which is allowed
-- there, up to one that ends the session. A history, `past`, has the
-- newest event first. A list of events to come has the oldest first.
use Rattle.std.specs.Prelude.{◌≡◌, ◌≢◌, ℕ, ◌+◌, ◌≤◌, ◌<◌, ◌⊎◌, Bool, true, false, ◌==◌, ◌||◌, ◌&&◌}
use Rattle.std.specs.Prelude.{if◌then◌else◌, IsTrue, List, [], ◌∷◌, ◌++◌, length, take, drop}
use Rattle.std.specs.Prelude.{Option, None, Some, is_some, IfSome}
use Rattle.std.specs.Option.{option_map_or}
use Rattle.std.specs.Io.KnownBytes.{Consumes}
use Rattle.spf_view.specs.Frames.{FitsFrame, raw_text, frame_front}

-- What a stream of events E is, whose sessions may be refused with A.
pub record Stream (E A : Type 0) : Type 0 where
  -- the event that a payload of a kind lays out
  pub event_at : ℕ → List ℕ → Option E
  -- whether a frame of a kind is allowed after a history
  pub allows : List E → ℕ → Bool
  -- how an event after a history ends the session, where nothing is accepted yet
  pub refusal : List E → E → Option A
  pub closes : E → Bool
  -- whether something is accepted in a history
  pub synced : List E → Bool

-- The bytes are a frame of the event, which is allowed after the history.
pub record IsFrame {E A : Type 0} (s : Stream E A) (past : List E) (bytes : List ℕ)
    (e : E) : Type 0 where
  pub kind : ℕ
  pub payload : List ℕ
  pub text : bytes ≡ raw_text kind payload
  pub short : FitsFrame payload
  pub allowed : s.allows past kind ≡ true
  pub lays_out : s.event_at kind payload ≡ Some e

-- no frame that is allowed after the history begins these bytes
abbrev pub NoFrameAt : {E A : Type 0} → Stream E A → List E → List ℕ → Type 0
NoFrameAt {E} s past bytes = (e : E) (front rest : List ℕ) → IsFrame s past front e
    → bytes ≡ front ++ rest → ⊥

abbrev pub ends : {E A : Type 0} → Stream E A → List E → E → Bool
ends s past e = is_some (s.refusal past e) || s.closes e

-- One more event, whose frame begins the bytes.
pub record IsEvent {E A : Type 0} (s : Stream E A) (past : List E) (bytes front rest : List ℕ)
    (e : E) : Type 0 where
  pub text : bytes ≡ front ++ rest
  pub frame : IsFrame s past front e

-- After the history the bytes are frames of these events, and only the last may end the session.
unfoldable pub IsSession : {E A : Type 0} → Stream E A → List E → List ℕ → List E → Type 0
IsSession s past bytes [] = bytes ≡ []
IsSession s past bytes (e ∷ es) =
    (front : List ℕ) × (rest : List ℕ) × IsEvent s past bytes front rest e
    × (IsTrue (ends s past e) → es ≡ []) × IsSession s (e ∷ past) rest es

-- The bytes begin with a session of these events, at
-- most `max_frames` of them, and the rest follows.
pub record Reads {E A : Type 0} (s : Stream E A) (max_frames : ℕ) (bytes : List ℕ) (es : List E)
    (rest : List ℕ) : Type 0 where
  pub text : List ℕ
  pub bytes_are : bytes ≡ text ++ rest
  pub session : IsSession s [] text es
  pub bound : length es ≤ max_frames

-- The reading of the bytes: the longest list of events with which they begin, and the rest.
pub record IsReading {E A : Type 0} (s : Stream E A) (max_frames : ℕ) (bytes : List ℕ) (es : List E)
    (rest : List ℕ) : Type 0 where
  pub reads : Reads s max_frames bytes es rest
  pub longest : (others : List E) (other : List ℕ) → Reads s max_frames bytes others other
      → length others ≤ length es

-- the history after these events
unfoldable pub onto : {E : Type 0} → List E → List E → List E
onto past [] = past
onto past (e ∷ es) = onto (e ∷ past) es

-- how the events end the session, where one is refused
unfoldable pub refusal_of : {E A : Type 0} → Stream E A → List E → List E → Option A
refusal_of s past [] = None
refusal_of s past (e ∷ es) =
    if is_some (s.refusal past e) then s.refusal past e else refusal_of s (e ∷ past) es

unfoldable pub closed_of : {E A : Type 0} → Stream E A → List E → Bool
closed_of s [] = false
closed_of s (e ∷ es) = s.closes e || closed_of s es

-- How following a session ends.
pub data End (A : Type 0) : Type 0 where
  Whole : ℕ → End A
  OutOfMemory : End A
  ReadFault : End A
  WriteFault : End A
  TooLong : End A
  BadFrame : ℕ → End A
  Refused : A → End A
  NeverSynced : End A

-- What a reading says of the end: how it is refused, whether it is whole, whether something is
-- accepted, whether it has as many events as are allowed, and how many it has.
pub record Reached (A : Type 0) : Type 0 where
  pub refusal : Option A
  pub whole : Bool
  pub synced : Bool
  pub full : Bool
  pub count : ℕ

abbrev pub end_by : {A : Type 0} → Reached A → End A
end_by r = option_map_or Refused r.refusal
    (if r.whole then (if r.synced then Whole r.count else NeverSynced) else if r.full then TooLong
    else BadFrame (r.count + 1))

-- The end that a reading fixes: a refusal; otherwise a whole session by whether something is
-- accepted; otherwise the bound, or the bad frame.
abbrev pub end_of : {E A : Type 0} → Stream E A → ℕ → List E → List ℕ → End A
end_of s max_frames es rest = end_by (record {
  refusal = refusal_of s [] es;
  whole = closed_of s es || length rest == 0;
  synced = s.synced (onto [] es);
  full = length es == max_frames;
  count = length es;
})

-- the ends that the bytes do not fix
abbrev pub is_free : {A : Type 0} → End A → Bool
is_free OutOfMemory = true
is_free ReadFault = true
is_free WriteFault = true
is_free _ = false

-- the bytes have a reading of these events, and the end is the one that it fixes
pub record IsEndOf {E A : Type 0} (s : Stream E A) (max_frames : ℕ) (bytes : List ℕ) (es : List E)
    (r : End A) : Type 0 where
  pub rest : List ℕ
  pub reading : IsReading s max_frames bytes es rest
  pub is : r ≡ end_of s max_frames es rest

-- ---- what is handed on

-- What each event that is not refused gives, one after another.
unfoldable pub all_of : {E A X : Type 0} → Stream E A → (List E → E → List X) → List E → List E
    → List X
all_of s one past [] = []
all_of s one past (e ∷ es) =
    if is_some (s.refusal past e) then [] else one past e ++ all_of s one (e ∷ past) es

-- what an event after a history gives
pub record Outputs (E X Y : Type 0) : Type 0 where
  pub line : List E → E → List ℕ
  pub steps : List E → E → List X
  pub records : List E → E → List Y

-- What a run sees of its surroundings at one time: the bytes that the source has left, and what the
-- sink, the publisher and the recorder hold, each where it says so.
pub record Ports (X Y : Type 0) : Type 0 where
  pub left : Option (List ℕ)
  pub held : Option (List ℕ)
  pub steps : Option (List X)
  pub records : Option (List Y)

-- a list, where it is known, grows by these
abbrev pub Grows : {X : Type 0} → Option (List X) → Option (List X) → List X → Type 0
Grows None new more = Unit {0}
Grows (Some old) None more = ⊥
Grows (Some old) (Some new) more = new ≡ old ++ more

-- a list, where it is known, grows by a beginning of these, and by all of them where nothing is cut
pub record GrowsUpTo {X : Type 0} (old new : Option (List X)) (more : List X)
    (cut : Bool) : Type 0 where
  pub count : ℕ
  pub grows : Grows old new (take count more)
  pub all : cut ≡ false → count ≡ length more

-- only after these ends may the line of the last event be put in part
abbrev pub cuts_line : {A : Type 0} → End A → Bool
cuts_line OutOfMemory = true
cuts_line WriteFault = true
cuts_line _ = false

-- only after this end may the steps and records of the last event be handed on in part
abbrev pub cuts_steps : {A : Type 0} → End A → Bool
cuts_steps OutOfMemory = true
cuts_steps _ = false

-- Of these events, the last of which stands after `before`, these numbers of steps, records and
-- octets of lines are handed on: all of the events before the last; and of the last its records
-- only after its steps, its line only after its records.
pub record IsInOrder {E A X Y : Type 0} (s : Stream E A) (o : Outputs E X Y) (before es : List E)
    (steps records octets : ℕ) : Type 0 where
  pub earlier_steps : length (all_of s o.steps [] before) ≤ steps
  pub earlier_records : length (all_of s o.records [] before) ≤ records
  pub earlier_lines : length (all_of s o.line [] before) ≤ octets
  pub steps_first : length (all_of s o.records [] before) < records
      → steps ≡ length (all_of s o.steps [] es)
  pub line_last : length (all_of s o.line [] before) < octets
      → (steps ≡ length (all_of s o.steps [] es)) × (records ≡ length (all_of s o.records [] es))

-- ---- what is taken

-- none of the events ends the session
pub record GoesOn {E A : Type 0} (s : Stream E A) (es : List E) : Type 0 where
  pub unrefused : refusal_of s [] es ≡ None
  pub unclosed : closed_of s es ≡ false

-- The session goes on after the events, and what is read further belongs to one frame.
pub record ReadsOn {E A : Type 0} (s : Stream E A) (max_frames : ℕ) (es : List E)
    (extra : List ℕ) : Type 0 where
  pub goes_on : GoesOn s es
  -- after the last frame that is allowed none is read
  pub room : extra ≢ [] → length es < max_frames
  pub front : frame_front (s.allows (onto [] es)) extra ≡ extra

-- The session goes on after the events, and a bad frame
-- is read exactly as far as shows that it is one.
pub record ReadsBadFrame {E A : Type 0} (s : Stream E A) (max_frames : ℕ) (left : Option (List ℕ))
    (text : List ℕ) (es : List E) (extra : List ℕ) : Type 0 where
  pub on : ReadsOn s max_frames es extra
  pub some : extra ≢ []
  pub whole : IfSome left
      (λ bytes. frame_front (s.allows (onto [] es)) (drop (length text) bytes) ≡ extra)

-- What is taken of a source after the frames of the events, `text`, by the end.
-- Nothing, but for these ends: at a bad frame its kind, where that is not allowed; its
-- kind and length, where the length is too great; the whole frame, where its payload
-- has no layout; and all that is left, where the source ends inside. After max_frames
-- one octet. Where a read fails or memory runs out no more than the frame of one event.
abbrev pub TakenAtEnd : {E A : Type 0} → Stream E A → ℕ → Option (List ℕ) → List ℕ → List E → List ℕ
    → End A → Type 0
TakenAtEnd s max_frames left text es extra (BadFrame n) =
    (n ≡ length es + 1) × ReadsBadFrame s max_frames left text es extra
TakenAtEnd s max_frames left text es extra TooLong =
    GoesOn s es × (length es ≡ max_frames) × (length extra ≡ 1)
TakenAtEnd s max_frames left text es extra ReadFault = ReadsOn s max_frames es extra
TakenAtEnd s max_frames left text es extra OutOfMemory = extra ≢ [] → ReadsOn s max_frames es extra
TakenAtEnd s max_frames left text es extra (Whole n) = (n ≡ length es) × (extra ≡ [])
TakenAtEnd s max_frames left text es extra _ = extra ≡ []

-- ---- following

-- Following a stream, from what was there before to what is there after. There is one list of
-- events to which all that is taken, put, handed on and returned belongs.
pub record Followed {E A X Y : Type 0} (s : Stream E A) (o : Outputs E X Y) (max_frames : ℕ)
    (old new : Ports X Y) (r : End A) : Type 0 where
  pub es : List E
  pub text : List ℕ
  pub extra : List ℕ
  -- the frames of the events are taken, and what is read after them
  pub taken : Consumes old.left new.left (text ++ extra)
  pub session : IsSession s [] text es
  pub bound : length es ≤ max_frames
  pub taken_at_end : TakenAtEnd s max_frames old.left text es extra r
  -- after a fault of the source the events are those whose frames were handed out whole
  pub handed_out : r ≡ ReadFault → IsReading s max_frames (text ++ extra) es extra
  -- nothing is cut where more was read than the frames of the events
  pub lines : GrowsUpTo old.held new.held (all_of s o.line [] es) (cuts_line r && length extra == 0)
  pub steps : GrowsUpTo old.steps new.steps (all_of s o.steps [] es)
      (cuts_steps r && length extra == 0)
  pub records : GrowsUpTo old.records new.records (all_of s o.records [] es)
      (cuts_steps r && length extra == 0)
  pub order : (before : List E) (last : E) → es ≡ before ++ last ∷ []
      → IsInOrder s o before es steps.count records.count lines.count
  -- the end is fixed by the bytes that the source had, where
  -- they are known, unless it is a fault or memory ran out
  pub end : IfSome old.left (λ bytes. IsTrue (is_free r) ⊎ IsEndOf s max_frames bytes es r)
