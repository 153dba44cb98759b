-- The event of a frame, and that event as it is received.
use Rattle.std.proofs.Common.{◌≡◌, ℕ, Bool, true, false, cond, List, [], ◌++◌, Option, Some, None}
use Rattle.std.proofs.Common.{refl, sym, ap, ◌∙◌, subst}
use Rattle.std.specs.Prelude.{◌==◌, length, IsTrue}
use Rattle.std.specs.Option.{option_map}
use Rattle.spf_view.specs.Sessions.{Stream, NoFrameAt}
use Rattle.spf_view.proofs.FrameLemmas.{raw_same}
use Rattle.spf_feed.specs.declared.event.SessionEvent.{SessionEvent}
use Rattle.spf_feed.specs.declared.event.SessionEvent.TheVariants as events
use Rattle.spf_feed.specs.declared.phase.Phase.{Phase}
use Rattle.spf_feed.specs.Events.{failure_at, status_at, moment_at, when_empty, event_at, map_item}
use Rattle.spf_frame.specs.declared.error.FrameError.{FrameError}
use Rattle.spf_frame.specs.declared.error.FrameError.TheVariants as errors
use Rattle.spf_feed.specs.Following.{IsEventRead, IsEventUnread}
use Rattle.spf_feed.specs.Frames.{allows, FitsFrame, raw_text, frame_front, NoFrame, IsRead}
use Rattle.spf_feed.specs.Frames.{IsUnread}
use Rattle.spf_view.proofs.FrontLemmas.{frame_whole}
use Rattle.std.proofs.lemmas.List.{append-nil}
use Rattle.spf_frame.proofs.Parts.{none_from_front, unread_as}

-- ---- an event whose item is read further

chosen : {A B : Type 0} (g : A → B) (b : Bool) (x y : Option A) (x' y' : Option B)
    → x' ≡ option_map g x → y' ≡ option_map g y → cond b x' y' ≡ option_map g (cond b x y)
chosen g true x y x' y' p q = p
chosen g false x y x' y' p q = q

twice : {A B C D : Type 0} (f : A → B) (c : B → D) (d : A → C) (g : C → D) (o : Option A)
    → ((a : A) → c (f a) ≡ g (d a)) → option_map c (option_map f o) ≡ option_map g (option_map d o)
twice f c d g None h = refl
twice f c d g (Some a) h = ap Some (h a)

once : {A C D : Type 0} (c : A → D) (d : A → C) (g : C → D) (o : Option A)
    → ((a : A) → c a ≡ g (d a)) → option_map c o ≡ option_map g (option_map d o)
once c d g None h = refl
once c d g (Some a) h = ap Some (h a)

emptied : {I J : Type 0} (f : I → J) (payload : List ℕ) (e : SessionEvent I)
    → when_empty payload (map_item f e) ≡ option_map (map_item f) (when_empty payload e)
emptied f payload e =
    chosen (map_item f) (length payload == 0) (Some e) None (Some (map_item f e)) None refl refl

pub event_at-map_item : {I J : Type 0} (f : I → J) (item : List ℕ → Option I) (kind : ℕ)
    (payload : List ℕ)
    → event_at (λ b. option_map f (item b)) kind payload
    ≡ option_map (map_item f) (event_at item kind payload)
unfolding event_at
event_at-map_item {I} {J} f item kind payload =
    let g : SessionEvent I → SessionEvent J = map_item f in
    chosen g (kind == 1) _ _ _ _ (emptied f payload events.ClientMade) (
    chosen g (kind == 2) _ _ _ _
    (once events.ClientFailed events.ClientFailed g (failure_at payload) (λ a. refl)) (
    chosen g (kind == 3) _ _ _ _ (emptied f payload events.Connected) (
    chosen g (kind == 4) _ _ _ _
    (once events.ConnectStatus events.ConnectStatus g (status_at payload) (λ a. refl)) (
    chosen g (kind == 5) _ _ _ _ (twice f events.Item events.Item g (item payload) (λ a. refl)) (
    chosen g (kind == 6) _ _ _ _
    (once events.ItemStatus events.ItemStatus g (status_at payload) (λ a. refl)) (
    chosen g (kind == 7) _ _ _ _ (emptied f payload events.StreamEnd) (
    chosen g (kind == 8) _ _ _ _
    (once events.Moment events.Moment g (moment_at payload) (λ a. refl)) (
    chosen g (kind == 9) _ _ _ _ (emptied f payload events.Close) refl))))))))

-- ---- frames of a session

-- where no frame of an allowed kind begins, none of an allowed event does
pub none_at : {I T : Type 0} (s : Stream (SessionEvent I) T) (past : List (SessionEvent I))
    (phase : Phase) (bytes : List ℕ) → s.allows past ≡ allows phase → NoFrame phase bytes
    → NoFrameAt s past bytes
none_at s past phase bytes may none e front rest frame same =
    none frame.kind frame.payload rest (subst (λ p. p frame.kind ≡ true) may frame.allowed)
    frame.short (same ∙ ap (λ l. l ++ rest) frame.text)

-- why no frame was read is also why no event was
pub event_unread : {I T : Type 0} (s : Stream (SessionEvent I) T) (past : List (SessionEvent I))
    (phase : Phase) (allowed : Bool) (old new : Option (List ℕ)) (e : FrameError)
    → s.allows past ≡ allows phase → IsUnread phase allowed old new e
    → IsEventUnread s past allowed old new e
event_unread s past phase allowed old new e may h =
    unread_as (allows phase) (s.allows past) (NoFrame phase) (NoFrameAt s past) allowed old new e
    (sym may) (λ ys none. none_at s past phase ys may none) h

-- a frame whose payload lays out nothing is not the frame of an event
unlaid : {I J T : Type 0} (f : I → J) (lay : List ℕ → Option I) (s : Stream (SessionEvent I) T)
    (past : List (SessionEvent I)) (kind : ℕ) (payload : List ℕ) → s.event_at ≡ event_at lay
    → FitsFrame payload → event_at (λ b. option_map f (lay b)) kind payload ≡ None
    → (ys : List ℕ) → NoFrameAt s past (raw_text kind payload ++ ys)
unlaid f lay s past kind payload lays short none ys e front rest frame same =
    let parts =
    raw_same kind payload ys frame.kind frame.payload rest short frame.short
    (same ∙ ap (λ l. l ++ rest) frame.text) in
    let laid : event_at lay kind payload ≡ Some e =
    ap (λ k. event_at lay k payload) parts.0 ∙ ap (event_at lay frame.kind) parts.1
    ∙ sym (ap (λ at. at frame.kind frame.payload) lays) ∙ frame.lays_out in
    let both : None ≡ option_map (map_item f) (Some e) =
    sym none ∙ event_at-map_item f lay kind payload ∙ ap (option_map (map_item f)) laid in
    absurd cc

-- the event of a frame, as it is received
pub record Laid {I J : Type 0} (f : I → J) (lay : List ℕ → Option I) (kind : ℕ) (payload : List ℕ)
    (received : SessionEvent J) : Type 0 where
  pub event : SessionEvent I
  pub lays_out : event_at lay kind payload ≡ Some event
  pub is : received ≡ map_item f event

laid_by : {I J : Type 0} (f : I → J) (lay : List ℕ → Option I) (o : Option (SessionEvent I))
    (kind : ℕ) (payload : List ℕ) (received : SessionEvent J) → event_at lay kind payload ≡ o
    → Some received ≡ option_map (map_item f) o → Laid f lay kind payload received
laid_by f lay None kind payload received is h = absurd cc
laid_by f lay (Some e) kind payload received is h =
    record { event = e; lays_out = is; is = cc }

pub laid : {I J : Type 0} (f : I → J) (lay : List ℕ → Option I) (kind : ℕ) (payload : List ℕ)
    (received : SessionEvent J)
    → Some received ≡ event_at (λ b. option_map f (lay b)) kind payload
    → Laid f lay kind payload received
laid f lay kind payload received h =
    laid_by f lay (event_at lay kind payload) kind payload received refl
    (h ∙ event_at-map_item f lay kind payload)

-- ---- what was read

pub read_event : {I J T : Type 0} (f : I → J) (lay : List ℕ → Option I)
    (s : Stream (SessionEvent I) T) (past : List (SessionEvent I)) (phase : Phase) (allowed : Bool)
    (old new : Option (List ℕ)) (kind : ℕ) (payload slice : List ℕ) (received : SessionEvent J)
    → s.event_at ≡ event_at lay → s.allows past ≡ allows phase
    → IsRead phase allowed old new (record { kind = kind; payload = payload }) → slice ≡ payload
    → Some received ≡ event_at (λ b. option_map f (lay b)) kind slice
    → IsEventRead f s past allowed old new received
read_event f lay s past phase allowed old new kind payload slice received lays may read same is =
    let l =
    laid f lay kind payload received (is ∙ ap (event_at (λ b. option_map f (lay b)) kind) same) in
    record {
      leave = read.leave;
      event = l.event;
      front = raw_text kind payload;
      frame = record {
        kind = kind;
        payload = payload;
        text = refl;
        short = read.short;
        allowed = subst (λ p. p kind ≡ true) (sym may) read.kind;
        lays_out = ap (λ at. at kind payload) lays ∙ l.lays_out;
      };
      taken = read.taken;
      is = l.is;
    }

-- the frame of an allowed kind is read whole
front_whole : {I T : Type 0} (s : Stream (SessionEvent I) T) (past : List (SessionEvent I))
    (phase : Phase) (kind : ℕ) (payload ys : List ℕ) → s.allows past ≡ allows phase
    → IsTrue (allows phase kind) → FitsFrame payload
    → frame_front (s.allows past) (raw_text kind payload ++ ys) ≡ raw_text kind payload
front_whole s past phase kind payload ys may is fits =
    frame_whole (s.allows past) kind payload ys (subst (λ p. p kind ≡ true) (sym may) is) fits

front_alone : {I T : Type 0} (s : Stream (SessionEvent I) T) (past : List (SessionEvent I))
    (phase : Phase) (kind : ℕ) (payload : List ℕ) → s.allows past ≡ allows phase
    → IsTrue (allows phase kind) → FitsFrame payload
    → frame_front (s.allows past) (raw_text kind payload) ≡ raw_text kind payload
front_alone s past phase kind payload may is fits =
    ap (frame_front (s.allows past)) (sym (append-nil (raw_text kind payload)))
    ∙ front_whole s past phase kind payload [] may is fits

pub read_nothing : {I J T : Type 0} (f : I → J) (lay : List ℕ → Option I)
    (s : Stream (SessionEvent I) T) (past : List (SessionEvent I)) (phase : Phase) (allowed : Bool)
    (old new : Option (List ℕ)) (kind : ℕ) (payload slice : List ℕ)
    → s.event_at ≡ event_at lay → s.allows past ≡ allows phase
    → IsRead phase allowed old new (record { kind = kind; payload = payload }) → slice ≡ payload
    → None ≡ event_at (λ b. option_map f (lay b)) kind slice
    → IsEventUnread s past allowed old new errors.BadFrame
read_nothing f lay s past phase allowed old new kind payload slice lays may read same is =
    let none : event_at (λ b. option_map f (lay b)) kind payload ≡ None =
    sym (is ∙ ap (event_at (λ b. option_map f (lay b)) kind) same) in (
      read.leave,
      (
        raw_text kind payload,
        read.taken,
        (
          (λ e. absurd cc),
          front_alone s past phase kind payload may read.kind read.short,
          none_from_front
              (λ ys. NoFrameAt s past ys
              × (frame_front (s.allows past) ys ≡ raw_text kind payload)) old new
              (raw_text kind payload) read.taken
              (λ ys. (
                unlaid f lay s past kind payload lays read.short none ys,
                front_whole s past phase kind payload ys may read.kind read.short,
              )),
        ),
      ),
    )

-- memory ran out over the payload of a frame
pub read_stopped : {I T : Type 0} (s : Stream (SessionEvent I) T) (past : List (SessionEvent I))
    (phase : Phase) (allowed : Bool) (old new : Option (List ℕ)) (kind : ℕ) (payload : List ℕ)
    → s.allows past ≡ allows phase
    → IsRead phase allowed old new (record { kind = kind; payload = payload })
    → IsEventUnread s past allowed old new errors.OutOfMemory
read_stopped s past phase allowed old new kind payload may read = (
  read.leave,
  (
    raw_text kind payload,
    read.taken,
    front_alone s past phase kind payload may read.kind read.short,
  ),
)
