-- What is the text of an event is read as it, and what is read is its text.
use Rattle.std.proofs.Common.{◌≡◌, ℕ, suc, Bool, true, false, cond, List, [], ◌∷◌, ◌++◌, length}
use Rattle.std.proofs.Common.{Option, Some, None, refl, ap, ◌∙◌, subst, arith}
use Rattle.std.specs.Prelude.{◌==◌, ◌↔◌}
use Rattle.std.specs.Int.{w32, to_be_bytes}
use Rattle.std.specs.Option.{option_map}
use Rattle.std.proofs.lemmas.Bool.Decides.{nat_tests}
use Rattle.spf_view.specs.Sessions.{IsFrame}
use Rattle.spf_feed.specs.declared.event.SessionEvent.TheVariants as events
use Rattle.spf_feed.specs.Events.{status_at, failure_at, moment_at, when_empty, event_at}
use Rattle.spf_feed.specs.Frames.{sized}
use Rattle.spf_feed.specs.Texts.{AreOctets, EventText, FrameText}
use Rattle.spf_feed.proofs.TextLemmas.{status_exactly, failure_exactly, moment_exactly}
use Rattle.spf_jwt_feed.specs.Items.{Event, Rules, ItemText, response_at}
use Rattle.spf_jwt_feed.specs.Run.{stream}
use Rattle.spf_jwt_feed.proofs.Received.{item_takes, item_again}

-- the two ways of a test that finds something
tested : {E Q : Type 0} (n k : ℕ) (found rest : Option E) (e : E)
    → cond (n == k) found rest ≡ Some e → (n ≡ k → found ≡ Some e → Q) → (rest ≡ Some e → Q) → Q
tested {E} {Q} n k found rest e h here later = by (n == k) refl h
  where
    by : (b : Bool) → (n == k) ≡ b → cond b found rest ≡ Some e → Q
    by true is h = here (grind (arith, nat_tests)) h
    by false is h = later h

-- what a mapped option holds
mapped : {A B Q : Type 0} (f : A → B) (o : Option A) (y : B) → option_map f o ≡ Some y
    → ((x : A) → o ≡ Some x → f x ≡ y → Q) → Q
mapped f None y h on = cc
mapped f (Some x) y h on = on x refl cc

empty_is : (payload : List ℕ) (e f : Event) → when_empty payload e ≡ Some f
    → (payload ≡ []) × (e ≡ f)
empty_is [] e f h = (refl, cc)
empty_is (x ∷ payload) e f h = let off : (suc (length payload) == 0) ≡ false =
    grind (arith, nat_tests) in cc

-- ---- events

event_again : (kind : ℕ) (payload : List ℕ) (e : Event) → AreOctets payload
    → EventText ItemText kind payload e → event_at response_at kind payload ≡ Some e
unfolding event_at
event_again kind payload events.ClientMade are h = (λ i. event_at response_at (h.0 i) (h.1 i))
event_again kind payload (events.ClientFailed e) are h =
    ap (λ k. event_at response_at k payload) h.0
    ∙ ap (option_map events.ClientFailed) ((failure_exactly payload e are).1 h.1)
event_again kind payload events.Connected are h = (λ i. event_at response_at (h.0 i) (h.1 i))
event_again kind payload (events.ConnectStatus s) are h =
    ap (λ k. event_at response_at k payload) h.0
    ∙ ap (option_map events.ConnectStatus) ((status_exactly payload s are).1 h.1)
event_again kind payload (events.Item r) are h =
    ap (λ k. event_at response_at k payload) h.0
    ∙ ap (option_map events.Item) (item_again payload r h.1)
event_again kind payload (events.ItemStatus s) are h =
    ap (λ k. event_at response_at k payload) h.0
    ∙ ap (option_map events.ItemStatus) ((status_exactly payload s are).1 h.1)
event_again kind payload events.StreamEnd are h = (λ i. event_at response_at (h.0 i) (h.1 i))
event_again kind payload (events.Moment m) are h =
    ap (λ k. event_at response_at k payload) h.0
    ∙ ap (option_map events.Moment) ((moment_exactly payload m are).1 h.1)
event_again kind payload events.Close are h = (λ i. event_at response_at (h.0 i) (h.1 i))

event_takes : (kind : ℕ) (payload : List ℕ) (e : Event) → AreOctets payload
    → event_at response_at kind payload ≡ Some e → EventText ItemText kind payload e
unfolding event_at
event_takes kind payload e are h =
    let Is : Event → Type 0 = EventText ItemText kind payload in
    tested kind 1 _ _ e h
    (λ k f. let p = empty_is payload events.ClientMade e f in subst Is p.1 (k, p.0)) (λ h.
    tested kind 2 _ _ e h
    (λ k f. mapped events.ClientFailed (failure_at payload) e f
    (λ x is same. subst Is same (k, (failure_exactly payload x are).0 is))) (λ h.
    tested kind 3 _ _ e h
    (λ k f. let p = empty_is payload events.Connected e f in subst Is p.1 (k, p.0)) (λ h.
    tested kind 4 _ _ e h
    (λ k f. mapped events.ConnectStatus (status_at payload) e f
    (λ x is same. subst Is same (k, (status_exactly payload x are).0 is))) (λ h.
    tested kind 5 _ _ e h
    (λ k f. mapped events.Item (response_at payload) e f
    (λ x is same. subst Is same (k, item_takes payload x are is))) (λ h.
    tested kind 6 _ _ e h
    (λ k f. mapped events.ItemStatus (status_at payload) e f
    (λ x is same. subst Is same (k, (status_exactly payload x are).0 is))) (λ h.
    tested kind 7 _ _ e h
    (λ k f. let p = empty_is payload events.StreamEnd e f in subst Is p.1 (k, p.0)) (λ h.
    tested kind 8 _ _ e h
    (λ k f. mapped events.Moment (moment_at payload) e f
    (λ x is same. subst Is same (k, (moment_exactly payload x are).0 is))) (λ h.
    tested kind 9 _ None e h
    (λ k f. let p = empty_is payload events.Close e f in subst Is p.1 (k, p.0)) (λ h. cc)))))))))

pub event_exactly : (kind : ℕ) (payload : List ℕ) (e : Event) → AreOctets payload
    → (event_at response_at kind payload ≡ Some e) ↔ EventText ItemText kind payload e
event_exactly kind payload e are = (
  event_takes kind payload e are,
  event_again kind payload e are,
)

-- ---- frames

-- the octets of a payload are octets of its frame
octets_after : (front rest : List ℕ) → AreOctets (front ++ rest) → AreOctets rest
octets_after [] rest are = are
octets_after (x ∷ front) rest are = octets_after front rest are.1

pub frame_exactly : (rules : Rules) (past : List Event) (bytes : List ℕ) (e : Event)
    → AreOctets bytes
    → IsFrame (stream rules) past bytes e
    ↔ ((f : FrameText ItemText bytes e) × ((stream rules).allows past f.kind ≡ true))
unfolding sized
frame_exactly rules past bytes e are = (
  λ h. (
    record {
      kind = h.kind;
      payload = h.payload;
      fits = h.short;
      event = (event_exactly h.kind h.payload e
          (octets_after (h.kind ∷ to_be_bytes w32 (length h.payload)) h.payload
          (subst AreOctets h.text are))).0 h.lays_out;
      octets = h.text;
    },
    h.allowed,
  ),
  λ h. record {
    kind = h.0.kind;
    payload = h.0.payload;
    text = h.0.octets;
    short = h.0.fits;
    allowed = h.1;
    lays_out = (event_exactly h.0.kind h.0.payload e
        (octets_after (h.0.kind ∷ to_be_bytes w32 (length h.0.payload)) h.0.payload
        (subst AreOctets h.0.octets are))).1 h.0.event;
  },
)
