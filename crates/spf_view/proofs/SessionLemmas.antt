-- Sessions grow at their end, and a reading is one that nothing makes longer.
use Rattle.std.proofs.Common.{◌≡◌, ◌≢◌, ℕ, suc, ◌+◌, ◌≤◌, ◌<◌, Bool, true, false, cond, eqb, List}
use Rattle.std.proofs.Common.{[], ◌∷◌, ◌++◌, length, Option, Some, None, refl, sym, ap, ◌∙◌, subst}
use Rattle.std.proofs.Common.{append_assoc, arith, length-append}
use Rattle.std.specs.Prelude.{IsTrue, is_some, ◌||◌}
use Rattle.std.proofs.lemmas.Bool.Decides.{nat_tests}
use Rattle.std.proofs.lemmas.List.{append-nil}
use Rattle.spf_view.specs.Sessions.{Stream, IsFrame, IsEvent, NoFrameAt, ends, IsSession, IsReading}
use Rattle.spf_view.specs.Sessions.{onto, refusal_of, closed_of, Whole, TooLong, BadFrame, Refused}
use Rattle.spf_view.specs.Sessions.{NeverSynced, end_of, all_of}
use Rattle.spf_view.proofs.FrameLemmas.{raw_same}

-- ---- one frame

-- two frames that begin the same bytes are one, of one event
pub frame_same : {E A : Type 0} (s : Stream E A) (past : List E) (a x b y : List ℕ) (e f : E)
    → IsFrame s past a e → IsFrame s past b f → a ++ x ≡ b ++ y → (e ≡ f) × (x ≡ y)
frame_same s past a x b y e f p q same =
    let all = sym (ap (λ l. l ++ x) p.text) ∙ same ∙ ap (λ l. l ++ y) q.text in
    let parts = raw_same p.kind p.payload x q.kind q.payload y p.short q.short all in
    let one : Some e ≡ Some f =
    sym p.lays_out ∙ ap (λ k. s.event_at k p.payload) parts.0
    ∙ ap (λ l. s.event_at q.kind l) parts.1 ∙ q.lays_out in
    (cc, parts.2)

-- ---- sessions that go on

-- an event that lets the session go on
pub record IsPassing {E A : Type 0} (s : Stream E A) (past : List E) (e : E) : Type 0 where
  pub none : s.refusal past e ≡ None
  pub going : s.closes e ≡ false

unfoldable pub IsOpen : {E A : Type 0} → Stream E A → List E → List ℕ → List E → Type 0
IsOpen s past bytes [] = bytes ≡ []
IsOpen s past bytes (e ∷ es) =
    (front : List ℕ) × (rest : List ℕ) × IsEvent s past bytes front rest e × IsPassing s past e
    × IsOpen s (e ∷ past) rest es

pub open_nil : {E A : Type 0} (s : Stream E A) (past : List E) → IsOpen s past [] []
unfolding IsOpen
open_nil s past = refl

pub onto-more : {E : Type 0} (past es : List E) (e : E)
    → onto past (es ++ e ∷ []) ≡ e ∷ onto past es
unfolding onto
onto-more past [] e = refl
onto-more past (x ∷ es) e = onto-more (x ∷ past) es e

pub length-onto : {E : Type 0} (past es : List E) → length (onto past es) ≡ length past + length es
unfolding onto
length-onto past [] = omega arith
length-onto past (x ∷ es) = omega (arith, length-onto (x ∷ past) es)

passes : {E A : Type 0} (s : Stream E A) (past : List E) (e : E) → IsPassing s past e
    → ends s past e ≡ false
passes s past e h = rw (h.none, h.going) refl

event_longer : {E A : Type 0} (s : Stream E A) (past : List E) (bytes front rest more : List ℕ)
    (e : E) → IsEvent s past bytes front rest e
    → IsEvent s past (bytes ++ more) front (rest ++ more) e
event_longer s past bytes front rest more e h =
    record { text = ap (λ l. l ++ more) h.text ∙ append_assoc front rest more; frame = h.frame }

event_alone : {E A : Type 0} (s : Stream E A) (past : List E) (front : List ℕ) (e : E)
    → IsFrame s past front e → IsEvent s past front front [] e
event_alone s past front e h = record { text = sym (append-nil front); frame = h }

pub open_more : {E A : Type 0} (s : Stream E A) (past : List E) (bytes : List ℕ) (es : List E)
    (front : List ℕ) (e : E) → IsOpen s past bytes es → IsFrame s (onto past es) front e
    → IsPassing s (onto past es) e
    → IsOpen s past (bytes ++ front) (es ++ e ∷ [])
unfolding IsOpen onto
open_more s past bytes [] front e going frame h =
    rw going (front, [], event_alone s past front e frame, h, refl)
open_more s past bytes (x ∷ es) front e going frame h = (
  going.0,
  going.1 ++ front,
  event_longer s past bytes going.0 going.1 front x going.2,
  going.3,
  open_more s (x ∷ past) going.1 es front e going.4 frame h,
)

pub session_of : {E A : Type 0} (s : Stream E A) (past : List E) (bytes : List ℕ) (es : List E)
    → IsOpen s past bytes es → IsSession s past bytes es
unfolding IsOpen IsSession
session_of s past bytes [] going = going
session_of s past bytes (e ∷ es) going = (
  going.0,
  going.1,
  going.2,
  (λ t. let f = passes s past e going.3 in absurd cc),
  session_of s (e ∷ past) going.1 es going.4,
)

pub session_more : {E A : Type 0} (s : Stream E A) (past : List E) (bytes : List ℕ) (es : List E)
    (front : List ℕ) (e : E) → IsOpen s past bytes es → IsFrame s (onto past es) front e
    → IsSession s past (bytes ++ front) (es ++ e ∷ [])
unfolding IsOpen IsSession onto
session_more s past bytes [] front e going frame =
    rw going (front, [], event_alone s past front e frame, (λ t. refl), refl)
session_more s past bytes (x ∷ es) front e going frame = (
  going.0,
  going.1 ++ front,
  event_longer s past bytes going.0 going.1 front x going.2,
  (λ t. let f = passes s past x going.3 in absurd cc),
  session_more s (x ∷ past) going.1 es front e going.4 frame,
)

-- ---- one reading

peel : {E A : Type 0} (s : Stream E A) (past : List E) (bytes others a x b y rest other : List ℕ)
    (e f : E) → IsEvent s past bytes a x e → IsEvent s past others b y f
    → bytes ++ rest ≡ others ++ other
    → (e ≡ f) × (x ++ rest ≡ y ++ other)
peel s past bytes others a x b y rest other e f p q same =
    frame_same s past a (x ++ rest) b (y ++ other) e f p.frame q.frame (
    sym (append_assoc a x rest) ∙ ap (λ l. l ++ rest) (sym p.text) ∙ same
    ∙ ap (λ l. l ++ other) q.text ∙ append_assoc b y other)

longest_stuck : {E A : Type 0} (s : Stream E A) (past : List E) (bytes others rest other : List ℕ)
    (es fs : List E) → IsOpen s past bytes es → NoFrameAt s (onto past es) rest
    → bytes ++ rest ≡ others ++ other → IsSession s past others fs → length fs ≤ length es
unfolding IsOpen IsSession onto
longest_stuck s past bytes others rest other es [] going stuck same session = omega arith
longest_stuck s past bytes others rest other [] (f ∷ fs) going stuck same session =
    absurd (stuck f session.0 (session.1 ++ other) session.2.frame (
    ap (λ l. l ++ rest) (sym going) ∙ same ∙ ap (λ l. l ++ other) session.2.text
    ∙ append_assoc session.0 session.1 other))
longest_stuck s past bytes others rest other (e ∷ es) (f ∷ fs) going stuck same session =
    let both = peel s past bytes others going.0 going.1 session.0 session.1 rest other e f going.2
    session.2 same in
    let le = longest_stuck s (e ∷ past) going.1 session.1 rest other es fs going.4 stuck both.1
    (subst (λ x. IsSession s (x ∷ past) session.1 fs) (sym both.0) session.4) in
    omega (arith, le)

longest_ended : {E A : Type 0} (s : Stream E A) (past : List E)
    (bytes front others rest other : List ℕ) (es fs : List E) (e : E) → IsOpen s past bytes es
    → IsFrame s (onto past es) front e
    → IsTrue (ends s (onto past es) e) → (bytes ++ front) ++ rest ≡ others ++ other
    → IsSession s past others fs → length fs ≤ length (es ++ e ∷ [])
unfolding IsOpen IsSession onto
longest_ended s past bytes front others rest other es [] e going frame ending same session =
    omega arith
longest_ended s past bytes front others rest other [] (f ∷ fs) e going frame ending same session =
    let both = peel s past front others front [] session.0 session.1 rest other e f
    (event_alone s past front e frame) session.2
    (ap (λ l. (l ++ front) ++ rest) (sym going) ∙ same) in
    let none : fs ≡ [] = session.3 (subst (λ x. IsTrue (ends s past x)) both.0 ending) in
    omega (arith, ap length none)
longest_ended s past bytes front others rest other (x ∷ es) (f ∷ fs) e going frame ending same
    session =
    let both = peel s past (bytes ++ front) others going.0 (going.1 ++ front) session.0 session.1
    rest other x f (event_longer s past bytes going.0 going.1 front x going.2) session.2 same in
    let le = longest_ended s (x ∷ past) going.1 front session.1 rest other es fs e going.4 frame
    ending both.1 (subst (λ y. IsSession s (y ∷ past) session.1 fs) (sym both.0) session.4) in
    omega (arith, le)

pub reading_stuck : {E A : Type 0} (s : Stream E A) (max_frames : ℕ) (bytes : List ℕ) (es : List E)
    (rest : List ℕ) → IsOpen s [] bytes es → length es ≤ max_frames → NoFrameAt s (onto [] es) rest
    → IsReading s max_frames (bytes ++ rest) es rest
reading_stuck s max_frames bytes es rest going le stuck = record {
  reads = record {
    text = bytes;
    bytes_are = refl;
    session = session_of s [] bytes es going;
    bound = le;
  };
  longest = λ fs other r.
      longest_stuck s [] bytes r.text rest other es fs going stuck r.bytes_are r.session;
}

pub reading_full : {E A : Type 0} (s : Stream E A) (max_frames : ℕ) (bytes : List ℕ) (es : List E)
    (rest : List ℕ) → IsOpen s [] bytes es → length es ≡ max_frames
    → IsReading s max_frames (bytes ++ rest) es rest
reading_full s max_frames bytes es rest going full = record {
  reads = record {
    text = bytes;
    bytes_are = refl;
    session = session_of s [] bytes es going;
    bound = omega arith;
  };
  longest = λ fs other r. let b : length fs ≤ max_frames = r.bound in omega arith;
}

pub reading_ended : {E A : Type 0} (s : Stream E A) (max_frames : ℕ) (bytes : List ℕ) (es : List E)
    (front : List ℕ) (e : E) (rest : List ℕ) → IsOpen s [] bytes es → IsFrame s (onto [] es) front e
    → IsTrue (ends s (onto [] es) e) → length es < max_frames
    → IsReading s max_frames ((bytes ++ front) ++ rest) (es ++ e ∷ []) rest
reading_ended s max_frames bytes es front e rest going frame ending lt = record {
  reads = record {
    text = bytes ++ front;
    bytes_are = refl;
    session = session_more s [] bytes es front e going frame;
    bound = omega (arith, length-append es (e ∷ []));
  };
  longest = λ fs other r.
      longest_ended s [] bytes front r.text rest other es fs e going frame ending r.bytes_are
      r.session;
}

-- ---- what ends a session

pub refusal_of-open : {E A : Type 0} (s : Stream E A) (past : List E) (bytes : List ℕ) (es : List E)
    → IsOpen s past bytes es → refusal_of s past es ≡ None
unfolding IsOpen refusal_of
refusal_of-open s past bytes [] going = refl
refusal_of-open s past bytes (e ∷ es) going =
    rw (ap is_some going.3.none) (refusal_of-open s (e ∷ past) going.1 es going.4)

itself : {A : Type 0} (o : Option A) → cond (is_some o) o None ≡ o
itself None = refl
itself (Some x) = refl

pub refusal_of-more : {E A : Type 0} (s : Stream E A) (past : List E) (bytes : List ℕ) (es : List E)
    (e : E) → IsOpen s past bytes es → refusal_of s past (es ++ e ∷ []) ≡ s.refusal (onto past es) e
unfolding IsOpen refusal_of onto
refusal_of-more s past bytes [] e going = itself (s.refusal past e)
refusal_of-more s past bytes (x ∷ es) e going =
    rw (ap is_some going.3.none) (refusal_of-more s (x ∷ past) going.1 es e going.4)

pub closed_of-open : {E A : Type 0} (s : Stream E A) (past : List E) (bytes : List ℕ) (es : List E)
    → IsOpen s past bytes es → closed_of s es ≡ false
unfolding IsOpen closed_of
closed_of-open s past bytes [] going = refl
closed_of-open s past bytes (e ∷ es) going =
    rw going.3.going (closed_of-open s (e ∷ past) going.1 es going.4)

pub closed_of-more : {E A : Type 0} (s : Stream E A) (past : List E) (bytes : List ℕ) (es : List E)
    (e : E) → IsOpen s past bytes es → s.closes e ≡ true → closed_of s (es ++ e ∷ []) ≡ true
unfolding IsOpen closed_of
closed_of-more s past bytes [] e going h = rw h refl
closed_of-more s past bytes (x ∷ es) e going h =
    rw going.3.going (closed_of-more s (x ∷ past) going.1 es e going.4 h)

-- ---- what the events give

pub all_more : {E A X : Type 0} (s : Stream E A) (one : List E → E → List X) (past : List E)
    (bytes : List ℕ) (es : List E) (e : E) → IsOpen s past bytes es
    → s.refusal (onto past es) e ≡ None
    → all_of s one past (es ++ e ∷ []) ≡ all_of s one past es ++ one (onto past es) e
unfolding IsOpen all_of onto
all_more s one past bytes [] e going none = rw (ap is_some none) (append-nil (one past e))
all_more s one past bytes (x ∷ es) e going none =
    rw (ap is_some going.3.none, all_more s one (x ∷ past) going.1 es e going.4 none)
    (sym (append_assoc (one past x) (all_of s one (x ∷ past) es) (one (onto (x ∷ past) es) e)))

pub all_ended : {E A X : Type 0} (s : Stream E A) (one : List E → E → List X) (past : List E)
    (bytes : List ℕ) (es : List E) (e : E) → IsOpen s past bytes es
    → IsTrue (is_some (s.refusal (onto past es) e))
    → all_of s one past (es ++ e ∷ []) ≡ all_of s one past es
unfolding IsOpen all_of onto
all_ended s one past bytes [] e going ending = rw ending refl
all_ended s one past bytes (x ∷ es) e going ending =
    rw (ap is_some going.3.none, all_ended s one (x ∷ past) going.1 es e going.4 ending) refl

-- ---- ends

or_true : (b : Bool) → (b || true) ≡ true
or_true true = refl
or_true false = refl

pub end_at_end : {E A : Type 0} (s : Stream E A) (max_frames : ℕ) (es : List E) (b : Bool)
    → refusal_of s [] es ≡ None → s.synced (onto [] es) ≡ b
    → end_of s max_frames es [] ≡ cond b (Whole (length es)) NeverSynced
end_at_end s max_frames es b none good = let t : (closed_of s es || true) ≡ true =
    or_true (closed_of s es) in rw (none, t, good) refl

pub end_closed : {E A : Type 0} (s : Stream E A) (max_frames : ℕ) (es : List E) (rest : List ℕ)
    (b : Bool) → refusal_of s [] es ≡ None → closed_of s es ≡ true → s.synced (onto [] es) ≡ b
    → end_of s max_frames es rest ≡ cond b (Whole (length es)) NeverSynced
end_closed s max_frames es rest b none closed good = rw (none, closed, good) refl

pub end_long : {E A : Type 0} (s : Stream E A) (max_frames : ℕ) (es : List E) (x : ℕ)
    (rest : List ℕ) → refusal_of s [] es ≡ None → closed_of s es ≡ false → length es ≡ max_frames
    → end_of s max_frames es (x ∷ rest) ≡ TooLong
end_long s max_frames es x rest none going full =
    let some : eqb (suc (length rest)) 0 ≡ false = grind (arith, nat_tests) in
    let is : eqb (length es) max_frames ≡ true = grind (arith, nat_tests) in
    rw (none, going, some, is) refl

bad : {E A : Type 0} (s : Stream E A) (max_frames : ℕ) (es : List E) (x : ℕ) (rest : List ℕ)
    → refusal_of s [] es ≡ None → closed_of s es ≡ false → length es < max_frames
    → end_of s max_frames es (x ∷ rest) ≡ BadFrame (length es + 1)
bad s max_frames es x rest none going lt =
    let some : eqb (suc (length rest)) 0 ≡ false = grind (arith, nat_tests) in
    let isnt : eqb (length es) max_frames ≡ false = grind (arith, nat_tests) in
    rw (none, going, some, isnt) refl

pub end_bad : {E A : Type 0} (s : Stream E A) (max_frames : ℕ) (es : List E) (rest : List ℕ)
    → refusal_of s [] es ≡ None → closed_of s es ≡ false → rest ≢ [] → length es < max_frames
    → end_of s max_frames es rest ≡ BadFrame (length es + 1)
end_bad s max_frames es [] none going some lt = absurd (some refl)
end_bad s max_frames es (x ∷ rest) none going some lt = bad s max_frames es x rest none going lt

pub end_refused : {E A : Type 0} (s : Stream E A) (max_frames : ℕ) (es : List E) (rest : List ℕ)
    (x : A) → refusal_of s [] es ≡ Some x → end_of s max_frames es rest ≡ Refused x
end_refused s max_frames es rest x h = rw h refl

-- ---- one reading

session_same : {E A : Type 0} (s : Stream E A) (past : List E) (text text' : List ℕ)
    (es fs : List E) (rest other : List ℕ) → IsSession s past text es → IsSession s past text' fs
    → length es ≡ length fs
    → text ++ rest ≡ text' ++ other → (es ≡ fs) × (rest ≡ other)
unfolding IsSession
session_same s past text text' [] [] rest other a b len same =
    (refl, ap (λ l. l ++ rest) (sym a) ∙ same ∙ ap (λ l. l ++ other) b)
session_same s past text text' [] (f ∷ fs) rest other a b len same = absurd (omega (arith, len))
session_same s past text text' (e ∷ es) [] rest other a b len same = absurd (omega (arith, len))
session_same s past text text' (e ∷ es) (f ∷ fs) rest other a b len same =
    let both = peel s past text text' a.0 a.1 b.0 b.1 rest other e f a.2 b.2 same in
    let others =
    session_same s (e ∷ past) a.1 b.1 es fs rest other a.4
    (subst (λ x. IsSession s (x ∷ past) b.1 fs) (sym both.0) b.4) (omega (arith, len)) both.1 in
    (λ i. both.0 i ∷ others.0 i, others.1)

pub reading_same : {E A : Type 0} (s : Stream E A) (max_frames : ℕ) (bytes : List ℕ)
    (es fs : List E) (rest other : List ℕ) → IsReading s max_frames bytes es rest
    → IsReading s max_frames bytes fs other → (es ≡ fs) × (rest ≡ other)
reading_same s max_frames bytes es fs rest other a b =
    session_same s [] a.reads.text b.reads.text es fs rest other a.reads.session b.reads.session
    (omega (arith, a.longest fs other b.reads, b.longest es rest a.reads))
    (sym a.reads.bytes_are ∙ b.reads.bytes_are)
