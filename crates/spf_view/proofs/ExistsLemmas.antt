-- Each list of bytes has a reading.
use Rattle.std.proofs.Common.{◌≡◌, ℕ, zero, suc, ◌+◌, ◌^◌, Bool, true, false, ltb, List, [], ◌∷◌}
use Rattle.std.proofs.Common.{◌++◌, length, take, drop, Option, Some, None, inl, inr, refl, sym, ap}
use Rattle.std.proofs.Common.{◌∙◌, subst, append_assoc, arith, length-append, take_at, drop_at}
use Rattle.std.specs.Prelude.{IsTrue, ◌⊎◌}
use Rattle.std.specs.Int.{w32, to_be_bytes, from_be_bytes}
use Rattle.std.specs.Str.{bytes_eq}
use Rattle.std.proofs.lemmas.Nat.{from_be_bytes-to_be_bytes_4}
use Rattle.std.proofs.lemmas.Bool.Decides.{nat_tests}
use Rattle.std.proofs.lemmas.Slice.Eq.{bytes_eq-Decides}
use Rattle.spf_view.specs.Frames.{sized, FitsFrame, raw_text}
use Rattle.spf_view.specs.Sessions.{Stream, IsFrame, NoFrameAt, ends, IsReading, onto}
use Rattle.spf_view.proofs.SessionLemmas.{IsOpen, open_nil, open_more, reading_stuck, reading_full}
use Rattle.spf_view.proofs.SessionLemmas.{reading_ended}

-- ---- the frame that begins the bytes

-- the payload that the length announces, and what follows it
payload_in : List ℕ → List ℕ
payload_in bytes = take (from_be_bytes w32 (take 4 bytes)) (drop 4 bytes)

rest_in : List ℕ → List ℕ
rest_in bytes = drop (from_be_bytes w32 (take 4 bytes)) (drop 4 bytes)

-- a payload is found after its length
found : (payload rest : List ℕ) → FitsFrame payload
    → (payload_in (sized payload ++ rest) ≡ payload) × (rest_in (sized payload ++ rest) ≡ rest)
unfolding payload_in rest_in sized
found payload rest fits =
    let n = to_be_bytes w32 (length payload) in
    let split : (n ++ payload) ++ rest ≡ n ++ (payload ++ rest) = append_assoc n payload rest in
    let first : take 4 ((n ++ payload) ++ rest) ≡ n =
    ap (take 4) split ∙ take_at n (payload ++ rest) 4 refl in
    let size : from_be_bytes w32 (take 4 ((n ++ payload) ++ rest)) ≡ length payload =
    ap (from_be_bytes w32) first ∙ from_be_bytes-to_be_bytes_4 (length payload) (omega arith) in
    let second : drop 4 ((n ++ payload) ++ rest) ≡ payload ++ rest =
    ap (drop 4) split ∙ drop_at n (payload ++ rest) 4 refl in (
      (λ i. take (size i) (second i)) ∙ take_at payload rest (length payload) refl,
      (λ i. drop (size i) (second i)) ∙ drop_at payload rest (length payload) refl,
    )

-- what is found after the kind is a frame of the event
record IsFound {E A : Type 0} (s : Stream E A) (past : List E) (kind : ℕ) (bytes : List ℕ)
    (e : E) : Type 0 where
  pub allowed : s.allows past kind ≡ true
  pub fits : FitsFrame (payload_in bytes)
  pub text : sized (payload_in bytes) ++ rest_in bytes ≡ bytes
  pub lays_out : s.event_at kind (payload_in bytes) ≡ Some e

-- a frame that begins the bytes is found
framed : {E A : Type 0} (s : Stream E A) (past : List E) (kind : ℕ) (bytes front rest : List ℕ)
    (e : E) → IsFrame s past front e → kind ∷ bytes ≡ front ++ rest → IsFound s past kind bytes e
framed s past kind bytes front rest e f same =
    let all : kind ∷ bytes ≡ raw_text f.kind f.payload ++ rest =
    same ∙ ap (λ l. l ++ rest) f.text in
    let kinds : kind ≡ f.kind = cc in
    let tail : bytes ≡ sized f.payload ++ rest = cc in
    let both = found f.payload rest f.short in
    let payload : payload_in bytes ≡ f.payload = ap payload_in tail ∙ both.0 in
    let after : rest_in bytes ≡ rest = ap rest_in tail ∙ both.1 in
    record {
      allowed = ap (s.allows past) kinds ∙ f.allowed;
      fits = subst FitsFrame (sym payload) f.short;
      text = (λ i. sized (payload i) ++ after i) ∙ sym tail;
      lays_out = (λ i. s.event_at (kinds i) (payload i)) ∙ f.lays_out;
    }

-- one more event, or no frame
pub record IsMore {E A : Type 0} (s : Stream E A) (past : List E) (bytes : List ℕ) : Type 0 where
  pub event : E
  pub front : List ℕ
  pub rest : List ℕ
  pub frame : IsFrame s past front event
  pub text : bytes ≡ front ++ rest

looks : {E A : Type 0} (s : Stream E A) (past : List E) (bytes : List ℕ)
    → IsMore s past bytes ⊎ NoFrameAt s past bytes
looks s past [] =
    inr (λ e front rest f same. let all = same ∙ ap (λ l. l ++ rest) f.text in absurd cc)
looks {E} s past (kind ∷ bytes) =
    by (s.allows past kind) (ltb (2 ^ 24) (length (payload_in bytes)))
    (bytes_eq (sized (payload_in bytes) ++ rest_in bytes) bytes)
    (s.event_at kind (payload_in bytes)) refl refl refl refl
  where
    none : ((e : E) → IsFound s past kind bytes e → ⊥) → NoFrameAt s past (kind ∷ bytes)
    none never e front rest f same = never e (framed s past kind bytes front rest e f same)

    by : (may large same : Bool) (o : Option E) → s.allows past kind ≡ may
        → ltb (2 ^ 24) (length (payload_in bytes)) ≡ large
        → bytes_eq (sized (payload_in bytes) ++ rest_in bytes) bytes ≡ same
        → s.event_at kind (payload_in bytes) ≡ o
        → IsMore s past (kind ∷ bytes) ⊎ NoFrameAt s past (kind ∷ bytes)
    by false large same o a b c d = inr (none (λ e f. let no_frame = f.allowed in cc))
    by true true same o a b c d =
        inr (none (λ e f. let fits = f.fits in
        let off : ltb (2 ^ 24) (length (payload_in bytes)) ≡ false = grind (arith, nat_tests) in
        cc))
    by true false false o a b c d =
        inr (none (λ e f.
        let on = (bytes_eq-Decides (sized (payload_in bytes) ++ rest_in bytes) bytes).1 f.text in
        cc))
    by true false true None a b c d = inr (none (λ e f. let lays = f.lays_out in cc))
    by true false true (Some e) a b c d = inl (record {
      event = e;
      front = raw_text kind (payload_in bytes);
      rest = rest_in bytes;
      frame = record {
        kind = kind;
        payload = payload_in bytes;
        text = refl;
        short = grind (arith, nat_tests);
        allowed = a;
        lays_out = d;
      };
      text = ap (λ l. kind ∷ l)
          (sym ((bytes_eq-Decides (sized (payload_in bytes) ++ rest_in bytes) bytes).0 c));
    })

-- ---- the reading

pub record HasReading {E A : Type 0} (s : Stream E A) (max_frames : ℕ)
    (bytes : List ℕ) : Type 0 where
  pub es : List E
  pub rest : List ℕ
  pub reading : IsReading s max_frames bytes es rest

-- after one more event, where it lets the session go on
step : {E A : Type 0} (s : Stream E A) (max_frames room : ℕ) (text bytes : List ℕ) (es : List E)
    → IsOpen s [] text es → length es + suc room ≡ max_frames
    → IsMore s (onto [] es) bytes ⊎ NoFrameAt s (onto [] es) bytes
    → ((more : List ℕ) (rest : List ℕ) (fs : List E) → IsOpen s [] more fs
    → length fs + room ≡ max_frames → HasReading s max_frames (more ++ rest))
    → HasReading s max_frames (text ++ bytes)
step s max_frames room text bytes es going left (inr stuck) on =
    record {
      es = es;
      rest = bytes;
      reading = reading_stuck s max_frames text es bytes going (omega (arith, left)) stuck;
    }
step {E} {A} s max_frames room text bytes es going left (inl more) on =
    by (s.refusal (onto [] es) more.event) (s.closes more.event) refl refl
  where
    split : (text ++ more.front) ++ more.rest ≡ text ++ bytes
    split = append_assoc text more.front more.rest ∙ ap (λ l. text ++ l) (sym more.text)

    ended : IsTrue (ends s (onto [] es) more.event) → HasReading s max_frames (text ++ bytes)
    ended ending = record {
      es = es ++ more.event ∷ [];
      rest = more.rest;
      reading = subst (λ l. IsReading s max_frames l (es ++ more.event ∷ []) more.rest) split
          (reading_ended s max_frames text es more.front more.event more.rest going more.frame
          ending (omega (arith, left)));
    }

    by : (o : Option A) (c : Bool) → s.refusal (onto [] es) more.event ≡ o → s.closes more.event ≡ c
        → HasReading s max_frames (text ++ bytes)
    by (Some x) c refused closes = ended (rw refused refl)
    by None true refused closes = ended (rw (refused, closes) refl)
    by None false refused closes =
        subst (HasReading s max_frames) split
        (on (text ++ more.front) more.rest (es ++ more.event ∷ [])
        (open_more s [] text es more.front more.event going more.frame
        (record { none = refused; going = closes }))
        (omega (arith, left, length-append es (more.event ∷ []))))

-- after these events, where `room` more are allowed
reads_from : {E A : Type 0} (s : Stream E A) (max_frames room : ℕ) (text bytes : List ℕ)
    (es : List E) → IsOpen s [] text es → length es + room ≡ max_frames
    → HasReading s max_frames (text ++ bytes)
reads_from s max_frames zero text bytes es going left =
    record {
      es = es;
      rest = bytes;
      reading = reading_full s max_frames text es bytes going (omega (arith, left));
    }
reads_from s max_frames (suc room) text bytes es going left =
    step s max_frames room text bytes es going left (looks s (onto [] es) bytes)
    (λ more rest fs going count. reads_from s max_frames room more rest fs going count)

pub has_reading : {E A : Type 0} (s : Stream E A) (max_frames : ℕ) (bytes : List ℕ)
    → (es : List E) × (rest : List ℕ) × IsReading s max_frames bytes es rest
has_reading s max_frames bytes = let r =
    reads_from s max_frames max_frames [] bytes [] (open_nil s []) (omega arith) in
    (r.es, r.rest, r.reading)
