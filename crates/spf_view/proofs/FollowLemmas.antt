-- What a loop over the events keeps, and what each of its exits gives.
use Rattle.std.proofs.Common.{◌≡◌, ◌≢◌, ℕ, ◌+◌, ◌≤◌, ◌<◌, Bool, true, false, cond, ltb, eqb, List}
use Rattle.std.proofs.Common.{[], ◌∷◌, ◌++◌, length, take, drop, Option, Some, None, inl, inr, refl}
use Rattle.std.proofs.Common.{sym, ap, ◌∙◌, subst, append_assoc, arith, length-append, take_all}
use Rattle.std.proofs.Common.{drop_at}
use Rattle.std.specs.Prelude.{◌&&◌, ◌⊎◌, IsTrue, IfSome, is_some}
use Rattle.std.specs.Io.KnownBytes.{Consumes, IsAtEnd}
use Rattle.std.proofs.KnownBytes.{Consumes-trans, Consumes-nil}
use Rattle.std.proofs.lemmas.List.{append-nil}
use Rattle.std.proofs.lemmas.Bool.Decides.{nat_tests}
use Rattle.std.proofs.Math.Seq.{take-append-add}
use Rattle.spf_view.specs.Frames.{frame_front}
use Rattle.spf_view.specs.Sessions.{Stream, IsFrame, NoFrameAt, ends, IsReading, onto, End, Whole}
use Rattle.spf_view.specs.Sessions.{OutOfMemory, ReadFault, WriteFault, TooLong, BadFrame, Refused}
use Rattle.spf_view.specs.Sessions.{NeverSynced, end_of, is_free, IsEndOf, all_of, Outputs, Ports}
use Rattle.spf_view.specs.Sessions.{Grows, cuts_line, cuts_steps, GrowsUpTo, IsInOrder, GoesOn}
use Rattle.spf_view.specs.Sessions.{ReadsOn, TakenAtEnd, Followed}
use Rattle.spf_view.proofs.SessionLemmas.{IsOpen, open_nil, onto-more, open_more, session_of}
use Rattle.spf_view.proofs.SessionLemmas.{session_more, reading_stuck, reading_full, reading_ended}
use Rattle.spf_view.proofs.SessionLemmas.{refusal_of-open, refusal_of-more, closed_of-open}
use Rattle.spf_view.proofs.SessionLemmas.{closed_of-more, all_more, all_ended, end_at_end}
use Rattle.spf_view.proofs.SessionLemmas.{end_closed, end_long, end_bad, end_refused}

-- ---- lists that grow

pub grows_nil : {X : Type 0} (old : Option (List X)) → Grows old old []
grows_nil None = tt
grows_nil (Some xs) = sym (append-nil xs)

pub grows_none : {X : Type 0} (old new : Option (List X)) → new ≡ old → Grows old new []
grows_none {X} old new same =
    subst (λ (o : Option (List X)). Grows old o []) (sym same) (grows_nil old)

pub grows_trans : {X : Type 0} (old mid new : Option (List X)) (xs ys : List X) → Grows old mid xs
    → Grows mid new ys → Grows old new (xs ++ ys)
grows_trans None mid new xs ys a b = tt
grows_trans (Some l) None new xs ys a b = absurd a
grows_trans (Some l) (Some m) None xs ys a b = absurd b
grows_trans (Some l) (Some m) (Some n) xs ys a b = b ∙ ap (λ k. k ++ ys) a ∙ append_assoc l xs ys

pub grows_all : {X : Type 0} (old new : Option (List X)) (xs : List X) (cut : Bool)
    → Grows old new xs → GrowsUpTo old new xs cut
grows_all old new xs cut h =
    record {
      count = length xs;
      grows = subst (Grows old new) (sym (take_all (length xs) xs (omega arith))) h;
      all = λ e. refl;
    }

grows_more : {X : Type 0} (old mid new : Option (List X)) (xs ys : List X) (cut : Bool)
    → Grows old mid xs → GrowsUpTo mid new ys cut → GrowsUpTo old new (xs ++ ys) cut
grows_more old mid new xs ys cut a b = record {
  count = length xs + b.count;
  grows = subst (Grows old new) (sym (take-append-add xs ys b.count))
      (grows_trans old mid new xs (take b.count ys) a b.grows);
  all = λ e. ap (λ n. length xs + n) (b.all e) ∙ sym (length-append xs ys);
}

grows_as : {X : Type 0} (old new : Option (List X)) (xs ys : List X) (cut : Bool) → xs ≡ ys
    → GrowsUpTo old new xs cut → GrowsUpTo old new ys cut
grows_as old new xs ys cut same g = record {
  count = g.count;
  grows = subst (λ l. Grows old new (take g.count l)) same g.grows;
  all = λ e. g.all e ∙ ap length same;
}

-- ---- the loop

-- The surroundings after these events, each of which is handed on in all.
pub record SoFar {E A X Y : Type 0} (s : Stream E A) (o : Outputs E X Y) (max_frames : ℕ)
    (old cur : Ports X Y) (past : List E) (count : ℕ) : Type 0 where
  pub es : List E
  pub text : List ℕ
  pub going : IsOpen s [] text es
  pub history : onto [] es ≡ past
  pub count_is : length es ≡ count
  pub bound : count ≤ max_frames
  pub taken : Consumes old.left cur.left text
  pub lines : Grows old.held cur.held (all_of s o.line [] es)
  pub steps : Grows old.steps cur.steps (all_of s o.steps [] es)
  pub records : Grows old.records cur.records (all_of s o.records [] es)

pub begins : {E A X Y : Type 0} (s : Stream E A) (o : Outputs E X Y) (max_frames : ℕ)
    (old : Ports X Y) → SoFar s o max_frames old old [] 0
unfolding all_of onto
begins s o max_frames old = record {
  es = [];
  text = [];
  going = open_nil s [];
  history = refl;
  count_is = refl;
  bound = omega arith;
  taken = Consumes-nil old.left;
  lines = grows_nil old.held;
  steps = grows_nil old.steps;
  records = grows_nil old.records;
}

-- only the source, and the count of its failures, changed
pub record OnlyRead {X Y : Type 0} (cur new : Ports X Y) : Type 0 where
  pub held : new.held ≡ cur.held
  pub steps : new.steps ≡ cur.steps
  pub records : new.records ≡ cur.records

-- ---- what the bytes fix

known : {E A : Type 0} (s : Stream E A) (max_frames : ℕ) (es : List E) (r : End A)
    (left now : Option (List ℕ)) (given : List ℕ) → Consumes left now given
    → ((ys : List ℕ) → now ≡ Some ys → IsEndOf s max_frames (given ++ ys) es r)
    → IfSome left (λ bytes. IsTrue (is_free r) ⊎ IsEndOf s max_frames bytes es r)
known s max_frames es r None now given took h = tt
known s max_frames es r (Some xs) None given took h = absurd took
known s max_frames es r (Some xs) (Some ys) given took h =
    inr (subst (λ b. IsEndOf s max_frames b es r) (sym took) (h ys refl))

free : {E A : Type 0} (s : Stream E A) (max_frames : ℕ) (es : List E) (r : End A)
    (left : Option (List ℕ)) → IsTrue (is_free r)
    → IfSome left (λ bytes. IsTrue (is_free r) ⊎ IsEndOf s max_frames bytes es r)
free s max_frames es r None h = tt
free s max_frames es r (Some xs) h = inl h

if_known : (o : Option (List ℕ)) (P : List ℕ → Type 0) (ys : List ℕ) → o ≡ Some ys → IfSome o P
    → P ys
if_known None P ys e h = absurd cc
if_known (Some xs) P ys e h = let same : xs ≡ ys = cc in subst P same h

at_end : (o : Option (List ℕ)) (ys : List ℕ) → o ≡ Some ys → IsAtEnd o → ys ≡ []
at_end None ys e h = absurd cc
at_end (Some xs) ys e h = let same : xs ≡ ys = cc in sym same ∙ h

not_nil : (o o' : Option (List ℕ)) (given ys : List ℕ) → o ≡ Some ys → Consumes o o' given
    → given ≢ [] → ys ≢ []
not_nil None o' given ys e took some none = absurd cc
not_nil (Some xs) None given ys e took some none = absurd took
not_nil (Some xs) (Some zs) [] ys e took some none = some refl
not_nil (Some xs) (Some zs) (x ∷ given) ys e took some none = absurd cc

-- no frame begins the end
none_at_end : {E A : Type 0} (s : Stream E A) (past : List E) → NoFrameAt s past []
none_at_end s past e front rest frame same =
    let all = same ∙ ap (λ l. l ++ rest) frame.text in
    absurd cc

-- what is said of the bytes after the text is said of the rest of all
of_rest : (P : List ℕ → Type 0) (left now : Option (List ℕ)) (text : List ℕ)
    → Consumes left now text → IfSome now P → IfSome left (λ bytes. P (drop (length text) bytes))
of_rest P None now text took h = tt
of_rest P (Some xs) None text took h = absurd took
of_rest P (Some xs) (Some ys) text took h =
    subst P (sym (ap (drop (length text)) took ∙ drop_at text ys (length text) refl)) h

-- ---- the order of what is handed on

-- the events before the last give no more than all of them
fewer : {E A X : Type 0} (s : Stream E A) (one : List E → E → List X) (past before : List E)
    (last : E) → length (all_of s one past before)
    ≤ length (all_of s one past (before ++ last ∷ []))
unfolding all_of
fewer s one past [] last = omega arith
fewer s one past (e ∷ before) last =
    by (is_some (s.refusal past e)) (fewer s one (e ∷ past) before last)
  where
    by : (b : Bool)
        → length (all_of s one (e ∷ past) before)
        ≤ length (all_of s one (e ∷ past) (before ++ last ∷ []))
        → length (cond b [] (one past e ++ all_of s one (e ∷ past) before))
        ≤ length (cond b [] (one past e ++ all_of s one (e ∷ past) (before ++ last ∷ [])))
    by true le = omega arith
    by false le =
        omega (
          arith,
          length-append (one past e) (all_of s one (e ∷ past) before),
          length-append (one past e) (all_of s one (e ∷ past) (before ++ last ∷ [])),
          le,
        )

fewer_in : {E A X : Type 0} (s : Stream E A) (one : List E → E → List X) (before es : List E)
    (last : E) → es ≡ before ++ last ∷ []
    → length (all_of s one [] before) ≤ length (all_of s one [] es)
fewer_in s one before es last is =
    subst (λ l. length (all_of s one [] before) ≤ length (all_of s one [] l)) (sym is)
    (fewer s one [] before last)

-- where all is handed on it is in order
whole_in_order : {E A X Y : Type 0} (s : Stream E A) (o : Outputs E X Y) (before es : List E)
    (last : E) (steps records octets : ℕ) → es ≡ before ++ last ∷ []
    → steps ≡ length (all_of s o.steps [] es) → records ≡ length (all_of s o.records [] es)
    → octets ≡ length (all_of s o.line [] es) → IsInOrder s o before es steps records octets
whole_in_order s o before es last steps records octets is a b c = record {
  earlier_steps = omega (arith, a, fewer_in s o.steps before es last is);
  earlier_records = omega (arith, b, fewer_in s o.records before es last is);
  earlier_lines = omega (arith, c, fewer_in s o.line before es last is);
  steps_first = λ lt. a;
  line_last = λ lt. (a, b);
}

last_same : {E : Type 0} (xs ys : List E) (x y : E) → xs ++ x ∷ [] ≡ ys ++ y ∷ [] → xs ≡ ys
last_same {E} xs ys x y same =
    let len : length xs ≡ length ys =
    omega (arith, length-append xs (x ∷ []), length-append ys (y ∷ []), ap length same) in
    sym (front xs (x ∷ [])) ∙ ap (λ n. take n (xs ++ x ∷ [])) len ∙ ap (take (length ys)) same
    ∙ front ys (y ∷ [])
  where
    front : (a b : List E) → take (length a) (a ++ b) ≡ a
    front [] b = refl
    front (z ∷ a) b = ap (λ l. z ∷ l) (front a b)

-- ---- the exits before an event

still_going : {E A : Type 0} (s : Stream E A) (text : List ℕ) (es : List E) → IsOpen s [] text es
    → GoesOn s es
still_going s text es going =
    record {
      unrefused = refusal_of-open s [] text es going;
      unclosed = closed_of-open s [] text es going;
    }

kept_same : {X : Type 0} (old cur new : Option (List X)) (xs : List X) → new ≡ cur
    → Grows old cur xs → Grows old new xs
kept_same {X} old cur new xs same g = subst (λ (o : Option (List X)). Grows old o xs) (sym same) g

followed_before : {E A X Y : Type 0} (s : Stream E A) (o : Outputs E X Y) (max_frames : ℕ)
    (old cur new : Ports X Y) (past : List E) (count : ℕ) (extra : List ℕ) (r : End A)
    (f : SoFar s o max_frames old cur past count) → OnlyRead cur new
    → Consumes cur.left new.left extra → TakenAtEnd s max_frames old.left f.text f.es extra r
    → (r ≡ ReadFault → NoFrameAt s past extra)
    → IfSome old.left (λ bytes. IsTrue (is_free r) ⊎ IsEndOf s max_frames bytes f.es r)
    → Followed s o max_frames old new r
unfolding grows_all all_of
followed_before s o max_frames old cur new past count extra r f same took taken cut end = record {
  es = f.es;
  text = f.text;
  extra = extra;
  taken = Consumes-trans old.left cur.left new.left f.text extra f.taken took;
  session = session_of s [] f.text f.es f.going;
  bound = omega (arith, f.count_is, f.bound);
  taken_at_end = taken;
  handed_out =
      λ is. reading_stuck s max_frames f.text f.es extra f.going
      (omega (arith, f.count_is, f.bound))
      (subst (λ p. NoFrameAt s p extra) (sym f.history) (cut is));
  lines = grows_all old.held new.held (all_of s o.line [] f.es)
      (cuts_line r && eqb (length extra) 0)
      (kept_same old.held cur.held new.held (all_of s o.line [] f.es) same.held f.lines);
  steps = grows_all old.steps new.steps (all_of s o.steps [] f.es)
      (cuts_steps r && eqb (length extra) 0)
      (kept_same old.steps cur.steps new.steps (all_of s o.steps [] f.es) same.steps f.steps);
  records = grows_all old.records new.records (all_of s o.records [] f.es)
      (cuts_steps r && eqb (length extra) 0)
      (kept_same old.records cur.records new.records (all_of s o.records [] f.es) same.records
      f.records);
  order = λ before last is.
      whole_in_order s o before f.es last (length (all_of s o.steps [] f.es))
      (length (all_of s o.records [] f.es)) (length (all_of s o.line [] f.es)) is refl refl refl;
  end = end;
}

-- a session that is read to its end takes nothing more, and is not a fault
none_more : {E A : Type 0} (s : Stream E A) (max_frames : ℕ) (left : Option (List ℕ))
    (text : List ℕ) (es : List E) (b : Bool) (n : ℕ) (r : End A) → n ≡ length es
    → r ≡ cond b (Whole n) NeverSynced → TakenAtEnd s max_frames left text es [] r
none_more s max_frames left text es true n r count is =
    subst (TakenAtEnd s max_frames left text es []) (sym is) (count, refl)
none_more s max_frames left text es false n r count is =
    subst (TakenAtEnd s max_frames left text es []) (sym is) refl

no_failure : {A : Type 0} (b : Bool) (n : ℕ) (r : End A) → r ≡ cond b (Whole n) NeverSynced
    → r ≡ ReadFault → ⊥
no_failure true n r is fault = cc
no_failure false n r is fault = cc

-- the source is at its end
pub followed_end : {E A X Y : Type 0} (s : Stream E A) (o : Outputs E X Y) (max_frames : ℕ)
    (old cur new : Ports X Y) (past : List E) (count : ℕ) (r : End A)
    → SoFar s o max_frames old cur past count → OnlyRead cur new → Consumes cur.left new.left []
    → IsAtEnd cur.left → r ≡ cond (s.synced past) (Whole count) NeverSynced
    → Followed s o max_frames old new r
followed_end {E} {A} s o max_frames old cur new past count r f same took end is =
    followed_before s o max_frames old cur new past count [] r f same took
    (none_more s max_frames old.left f.text f.es (s.synced past) count r (sym f.count_is) is)
    (λ e. absurd (no_failure (s.synced past) count r is e))
    (known s max_frames f.es r old.left cur.left f.text f.taken (λ ys e.
    let none : ys ≡ [] = at_end cur.left ys e end in
    record {
      rest = ys;
      reading = reading_stuck s max_frames f.text f.es ys f.going
          (omega (arith, f.count_is, f.bound))
          (subst (NoFrameAt s (onto [] f.es)) (sym none) (none_at_end s (onto [] f.es)));
      is = is ∙ ap (λ n. cond (s.synced past) (Whole n) NeverSynced) (sym f.count_is)
          ∙ sym (ap (end_of s max_frames f.es) none
          ∙ end_at_end s max_frames f.es (s.synced past) (refusal_of-open s [] f.text f.es f.going)
          (ap s.synced f.history));
    }))

-- an octet stands after the last frame that is allowed
pub followed_long : {E A X Y : Type 0} (s : Stream E A) (o : Outputs E X Y) (max_frames : ℕ)
    (old cur new : Ports X Y) (past : List E) (count x : ℕ)
    → SoFar s o max_frames old cur past count → OnlyRead cur new → max_frames ≤ count
    → Consumes cur.left new.left (x ∷ []) → Followed s o max_frames old new TooLong
followed_long s o max_frames old cur new past count x f same full took =
    followed_before s o max_frames old cur new past count (x ∷ []) TooLong f same took
    (still_going s f.text f.es f.going, omega (arith, f.count_is, f.bound), refl) (λ e. absurd cc)
    (known s max_frames f.es TooLong old.left new.left (f.text ++ x ∷ [])
    (Consumes-trans old.left cur.left new.left f.text (x ∷ []) f.taken took) (λ ys e. record {
      rest = x ∷ ys;
      reading = subst (λ b. IsReading s max_frames b f.es (x ∷ ys))
          (sym (append_assoc f.text (x ∷ []) ys))
          (reading_full s max_frames f.text f.es (x ∷ ys) f.going
          (omega (arith, f.count_is, f.bound)));
      is = sym (end_long s max_frames f.es x ys (refusal_of-open s [] f.text f.es f.going)
          (closed_of-open s [] f.text f.es f.going) (omega (arith, f.count_is, f.bound)));
    }))

-- what was read of one frame
reads_on : {E A X Y : Type 0} (s : Stream E A) (o : Outputs E X Y) (max_frames : ℕ)
    (old cur : Ports X Y) (past : List E) (count : ℕ) (given : List ℕ)
    (f : SoFar s o max_frames old cur past count) → (given ≢ [] → count < max_frames)
    → frame_front (s.allows past) given ≡ given → ReadsOn s max_frames f.es given
reads_on s o max_frames old cur past count given f room front = record {
  goes_on = still_going s f.text f.es f.going;
  room = λ some. omega (arith, f.count_is, room some);
  front = subst (λ p. frame_front (s.allows p) given ≡ given) (sym f.history) front;
}

-- the bytes begin no frame that is allowed
pub followed_bad : {E A X Y : Type 0} (s : Stream E A) (o : Outputs E X Y) (max_frames : ℕ)
    (old cur new : Ports X Y) (past : List E) (count : ℕ) (given : List ℕ)
    → SoFar s o max_frames old cur past count → OnlyRead cur new → count < max_frames
    → Consumes cur.left new.left given → given ≢ [] → frame_front (s.allows past) given ≡ given
    → IfSome cur.left
    (λ bytes. NoFrameAt s past bytes × (frame_front (s.allows past) bytes ≡ given))
    → Followed s o max_frames old new (BadFrame (count + 1))
followed_bad s o max_frames old cur new past count given f same lt took some front none =
    followed_before s o max_frames old cur new past count given (BadFrame (count + 1)) f same took (
      ap (λ n. n + 1) (sym f.count_is),
      record {
        on = reads_on s o max_frames old cur past count given f (λ e. lt) front;
        some = some;
        whole = of_rest (λ bytes. frame_front (s.allows (onto [] f.es)) bytes ≡ given) old.left
            cur.left f.text f.taken (fronts cur.left none);
      },
    ) (λ e. absurd cc)
    (known s max_frames f.es (BadFrame (count + 1)) old.left cur.left f.text f.taken
    (λ ys e. record {
      rest = ys;
      reading = reading_stuck s max_frames f.text f.es ys f.going (omega (arith, f.count_is))
          (subst (λ p. NoFrameAt s p ys) (sym f.history)
          (if_known cur.left
          (λ bytes. NoFrameAt s past bytes × (frame_front (s.allows past) bytes ≡ given)) ys e
          none).0);
      is = sym (end_bad s max_frames f.es ys (refusal_of-open s [] f.text f.es f.going)
          (closed_of-open s [] f.text f.es f.going) (not_nil cur.left new.left given ys e took some)
          (omega (arith, f.count_is)) ∙ ap (λ n. BadFrame (n + 1)) f.count_is);
    }))
  where
    fronts : (left : Option (List ℕ))
        → IfSome left
        (λ bytes. NoFrameAt s past bytes × (frame_front (s.allows past) bytes ≡ given))
        → IfSome left (λ bytes. frame_front (s.allows (onto [] f.es)) bytes ≡ given)
    fronts None h = tt
    fronts (Some bytes) h = subst (λ p. frame_front (s.allows p) bytes ≡ given) (sym f.history) h.1

-- a read failed
pub followed_failure : {E A X Y : Type 0} (s : Stream E A) (o : Outputs E X Y) (max_frames : ℕ)
    (old cur new : Ports X Y) (past : List E) (count : ℕ) (given : List ℕ)
    → SoFar s o max_frames old cur past count → OnlyRead cur new → Consumes cur.left new.left given
    → NoFrameAt s past given → frame_front (s.allows past) given ≡ given
    → (ltb count max_frames ≡ false → given ≡ [])
    → Followed s o max_frames old new ReadFault
followed_failure s o max_frames old cur new past count given f same took none front full =
    followed_before s o max_frames old cur new past count given ReadFault f same took
    (reads_on s o max_frames old cur past count given f (room (ltb count max_frames) refl full)
    front) (λ e. none)
    (free s max_frames f.es ReadFault old.left refl)
  where
    room : (b : Bool) → ltb count max_frames ≡ b → (ltb count max_frames ≡ false → given ≡ [])
        → given ≢ [] → count < max_frames
    room true e full some = grind (arith, nat_tests)
    room false e full some = absurd (some (full e))

-- memory ran out over a frame
pub followed_no_frame : {E A X Y : Type 0} (s : Stream E A) (o : Outputs E X Y) (max_frames : ℕ)
    (old cur new : Ports X Y) (past : List E) (count : ℕ) (given : List ℕ)
    → SoFar s o max_frames old cur past count → OnlyRead cur new → count < max_frames
    → Consumes cur.left new.left given → frame_front (s.allows past) given ≡ given
    → Followed s o max_frames old new OutOfMemory
followed_no_frame s o max_frames old cur new past count given f same lt took front =
    followed_before s o max_frames old cur new past count given OutOfMemory f same took
    (λ some. reads_on s o max_frames old cur past count given f (λ e. lt) front) (λ e. absurd cc)
    (free s max_frames f.es OutOfMemory old.left refl)

-- memory ran out before anything was read
pub followed_early : {E A X Y : Type 0} (s : Stream E A) (o : Outputs E X Y) (max_frames : ℕ)
    (old : Ports X Y) → Followed s o max_frames old old OutOfMemory
followed_early s o max_frames old =
    let f = begins s o max_frames old in
    followed_before s o max_frames old old old [] 0 [] OutOfMemory f
    (record { held = refl; steps = refl; records = refl }) (Consumes-nil old.left)
    (λ some. absurd (some refl)) (λ e. absurd cc) (free s max_frames f.es OutOfMemory old.left refl)

-- ---- the exits after an event

-- one more event, whose frame was taken
pub record IsNext {E A : Type 0} (s : Stream E A) (max_frames : ℕ) (now after : Option (List ℕ))
    (past : List E) (count : ℕ) (e : E) : Type 0 where
  pub room : count < max_frames
  pub front : List ℕ
  pub frame : IsFrame s past front e
  pub took : Consumes now after front

framed : {E A : Type 0} (s : Stream E A) (past past' : List E) (front : List ℕ) (e : E)
    → past' ≡ past → IsFrame s past front e → IsFrame s past' front e
framed s past past' front e same h = subst (λ p. IsFrame s p front e) (sym same) h

-- What an event adds, in all or in part: its records
-- only after its steps, its line only after its records.
pub record Adds {E X Y : Type 0} (o : Outputs E X Y) (past : List E) (e : E) (cur new : Ports X Y)
    (line_cut steps_cut : Bool) : Type 0 where
  pub line : GrowsUpTo cur.held new.held (o.line past e) line_cut
  pub steps : GrowsUpTo cur.steps new.steps (o.steps past e) steps_cut
  pub records : GrowsUpTo cur.records new.records (o.records past e) steps_cut
  pub steps_first : 0 < records.count → steps.count ≡ length (o.steps past e)
  pub line_last : 0 < line.count
      → (steps.count ≡ length (o.steps past e)) × (records.count ≡ length (o.records past e))

-- what an event adds, in all
pub record AddsAll {E X Y : Type 0} (o : Outputs E X Y) (past : List E) (e : E)
    (cur new : Ports X Y) : Type 0 where
  pub line : Grows cur.held new.held (o.line past e)
  pub steps : Grows cur.steps new.steps (o.steps past e)
  pub records : Grows cur.records new.records (o.records past e)

adds_all : {E X Y : Type 0} (o : Outputs E X Y) (past : List E) (e : E) (cur new : Ports X Y)
    (line_cut steps_cut : Bool) → AddsAll o past e cur new
    → Adds o past e cur new line_cut steps_cut
unfolding grows_all
adds_all o past e cur new line_cut steps_cut h = record {
  line = grows_all cur.held new.held (o.line past e) line_cut h.line;
  steps = grows_all cur.steps new.steps (o.steps past e) steps_cut h.steps;
  records = grows_all cur.records new.records (o.records past e) steps_cut h.records;
  steps_first = λ lt. refl;
  line_last = λ lt. (refl, refl);
}

more_of : {E A X : Type 0} (s : Stream E A) (one : List E → E → List X) (text : List ℕ)
    (es past : List E) (e : E) → IsOpen s [] text es → onto [] es ≡ past → s.refusal past e ≡ None
    → all_of s one [] (es ++ e ∷ []) ≡ all_of s one [] es ++ one past e
more_of s one text es past e going history none =
    all_more s one [] text es e going (subst (λ p. s.refusal p e ≡ None) (sym history) none)
    ∙ ap (λ p. all_of s one [] es ++ one p e) history

-- what was handed on, with what an event adds
handed_more : {E A X : Type 0} (s : Stream E A) (one : List E → E → List X) (text : List ℕ)
    (es past : List E) (e : E) (old cur new : Option (List X)) (cut : Bool) → IsOpen s [] text es
    → onto [] es ≡ past
    → s.refusal past e ≡ None → Grows old cur (all_of s one [] es)
    → GrowsUpTo cur new (one past e) cut → GrowsUpTo old new (all_of s one [] (es ++ e ∷ [])) cut
handed_more s one text es past e old cur new cut going history none so_far more =
    grows_as old new (all_of s one [] es ++ one past e) (all_of s one [] (es ++ e ∷ [])) cut
    (sym (more_of s one text es past e going history none))
    (grows_more old cur new (all_of s one [] es) (one past e) cut so_far more)

in_order_more : {E A X Y : Type 0} (s : Stream E A) (o : Outputs E X Y) (text : List ℕ)
    (es past : List E) (e : E) (cur new : Ports X Y) (line_cut steps_cut : Bool)
    → IsOpen s [] text es → onto [] es ≡ past
    → s.refusal past e ≡ None
    → (a : Adds o past e cur new line_cut steps_cut) (before : List E) (last : E)
    → es ++ e ∷ [] ≡ before ++ last ∷ []
    → IsInOrder s o before (es ++ e ∷ []) (length (all_of s o.steps [] es) + a.steps.count)
    (length (all_of s o.records [] es) + a.records.count)
    (length (all_of s o.line [] es) + a.line.count)
in_order_more {E} s o text es past e cur new line_cut steps_cut going history none a before last
    is =
    subst (λ (b : List E).
    IsInOrder s o b (es ++ e ∷ []) (length (all_of s o.steps [] es) + a.steps.count)
    (length (all_of s o.records [] es) + a.records.count)
    (length (all_of s o.line [] es) + a.line.count))
    (last_same es before e last is)
    (record {
      earlier_steps = omega arith;
      earlier_records = omega arith;
      earlier_lines = omega arith;
      steps_first = λ lt. steps_all (a.steps_first (omega arith));
      line_last = λ lt. let both = a.line_last (omega arith) in
          (steps_all both.0, records_all both.1);
    })
  where
    steps_all : a.steps.count ≡ length (o.steps past e)
        → length (all_of s o.steps [] es) + a.steps.count
        ≡ length (all_of s o.steps [] (es ++ e ∷ []))
    steps_all all =
        omega (
          arith,
          all,
          ap length (more_of s o.steps text es past e going history none),
          length-append (all_of s o.steps [] es) (o.steps past e),
        )

    records_all : a.records.count ≡ length (o.records past e)
        → length (all_of s o.records [] es) + a.records.count
        ≡ length (all_of s o.records [] (es ++ e ∷ []))
    records_all all =
        omega (
          arith,
          all,
          ap length (more_of s o.records text es past e going history none),
          length-append (all_of s o.records [] es) (o.records past e),
        )

-- an event that is not refused, after which the run ends
followed_after : {E A X Y : Type 0} (s : Stream E A) (o : Outputs E X Y) (max_frames : ℕ)
    (old cur new : Ports X Y) (past : List E) (count : ℕ) (e : E) (r : End A)
    (f : SoFar s o max_frames old cur past count)
    (n : IsNext s max_frames cur.left new.left past count e) → s.refusal past e ≡ None
    → TakenAtEnd s max_frames old.left (f.text ++ n.front) (f.es ++ e ∷ []) [] r
    → (r ≡ ReadFault → ⊥) → Adds o past e cur new (cuts_line r) (cuts_steps r)
    → IfSome old.left (λ bytes. IsTrue (is_free r) ⊎ IsEndOf s max_frames bytes (f.es ++ e ∷ []) r)
    → Followed s o max_frames old new r
unfolding handed_more all_of grows_as grows_more
followed_after s o max_frames old cur new past count e r f n none taken calm adds end = record {
  es = f.es ++ e ∷ [];
  text = f.text ++ n.front;
  extra = [];
  taken = subst (Consumes old.left new.left) (sym (append-nil (f.text ++ n.front)))
      (Consumes-trans old.left cur.left new.left f.text n.front f.taken n.took);
  session = session_more s [] f.text f.es n.front e f.going
      (framed s past (onto [] f.es) n.front e f.history n.frame);
  bound = omega (arith, length-append f.es (e ∷ []), f.count_is, n.room);
  taken_at_end = taken;
  handed_out = λ is. absurd (calm is);
  lines = cut_more old.held new.held (all_of s o.line [] (f.es ++ e ∷ [])) (cuts_line r)
      (handed_more s o.line f.text f.es past e old.held cur.held new.held (cuts_line r) f.going
      f.history none f.lines adds.line);
  steps = cut_more old.steps new.steps (all_of s o.steps [] (f.es ++ e ∷ [])) (cuts_steps r)
      (handed_more s o.steps f.text f.es past e old.steps cur.steps new.steps (cuts_steps r) f.going
      f.history none f.steps adds.steps);
  records = cut_more old.records new.records (all_of s o.records [] (f.es ++ e ∷ [])) (cuts_steps r)
      (handed_more s o.records f.text f.es past e old.records cur.records new.records (cuts_steps r)
      f.going f.history none f.records adds.records);
  order = in_order_more s o f.text f.es past e cur new (cuts_line r) (cuts_steps r) f.going
      f.history none adds;
  end = end;
}
  where
    cut_more : {Z : Type 0} (a b : Option (List Z)) (xs : List Z) (cut : Bool)
        → GrowsUpTo a b xs cut → GrowsUpTo a b xs (cut && true)
    cut_more a b xs cut g =
        record { count = g.count; grows = g.grows; all = λ e. g.all (same cut e) }
      where
        same : (c : Bool) → (c && true) ≡ false → c ≡ false
        same true e = e
        same false e = e

read_ended : {E A X Y : Type 0} (s : Stream E A) (o : Outputs E X Y) (max_frames : ℕ)
    (old cur new : Ports X Y) (past : List E) (count : ℕ) (e : E) (rest : List ℕ)
    (f : SoFar s o max_frames old cur past count)
    (n : IsNext s max_frames cur.left new.left past count e) → IsTrue (ends s past e)
    → IsReading s max_frames ((f.text ++ n.front) ++ rest) (f.es ++ e ∷ []) rest
read_ended s o max_frames old cur new past count e rest f n ending =
    reading_ended s max_frames f.text f.es n.front e rest f.going
    (framed s past (onto [] f.es) n.front e f.history n.frame)
    (subst (λ p. IsTrue (ends s p e)) (sym f.history) ending) (omega (arith, f.count_is, n.room))

-- an event that is refused
pub followed_refused : {E A X Y : Type 0} (s : Stream E A) (o : Outputs E X Y) (max_frames : ℕ)
    (old cur new : Ports X Y) (past : List E) (count : ℕ) (e : E) (x : A)
    → SoFar s o max_frames old cur past count → IsNext s max_frames cur.left new.left past count e
    → OnlyRead cur new → s.refusal past e ≡ Some x → Followed s o max_frames old new (Refused x)
unfolding grows_all all_of
followed_refused {E} s o max_frames old cur new past count e x f n same h = record {
  es = f.es ++ e ∷ [];
  text = f.text ++ n.front;
  extra = [];
  taken = subst (Consumes old.left new.left) (sym (append-nil (f.text ++ n.front)))
      (Consumes-trans old.left cur.left new.left f.text n.front f.taken n.took);
  session = session_more s [] f.text f.es n.front e f.going
      (framed s past (onto [] f.es) n.front e f.history n.frame);
  bound = omega (arith, length-append f.es (e ∷ []), f.count_is, n.room);
  taken_at_end = refl;
  handed_out = λ is. absurd cc;
  lines = all_handed o.line old.held cur.held new.held same.held f.lines;
  steps = all_handed o.steps old.steps cur.steps new.steps same.steps f.steps;
  records = all_handed o.records old.records cur.records new.records same.records f.records;
  order = λ before last is.
      whole_in_order s o before (f.es ++ e ∷ []) last
      (length (all_of s o.steps [] (f.es ++ e ∷ [])))
      (length (all_of s o.records [] (f.es ++ e ∷ [])))
      (length (all_of s o.line [] (f.es ++ e ∷ []))) is refl refl refl;
  end = known s max_frames (f.es ++ e ∷ []) (Refused x) old.left new.left (f.text ++ n.front)
      (Consumes-trans old.left cur.left new.left f.text n.front f.taken n.took) (λ ys same. record {
        rest = ys;
        reading = read_ended s o max_frames old cur new past count e ys f n ended;
        is = sym (end_refused s max_frames (f.es ++ e ∷ []) ys x
            (refusal_of-more s [] f.text f.es e f.going
            ∙ subst (λ p. s.refusal p e ≡ Some x) (sym f.history) h));
      });
}
  where
    ending : IsTrue (is_some (s.refusal past e))
    ending = ap is_some h

    ended : IsTrue (ends s past e)
    ended = rw ending refl

    all_handed : {Z : Type 0} (one : List E → E → List Z) (a b c : Option (List Z)) → c ≡ b
        → Grows a b (all_of s one [] f.es) → GrowsUpTo a c (all_of s one [] (f.es ++ e ∷ [])) false
    all_handed one a b c is g =
        grows_all a c (all_of s one [] (f.es ++ e ∷ [])) false
        (kept_same a b c (all_of s one [] (f.es ++ e ∷ [])) is
        (subst (Grows a b)
        (sym (all_ended s one [] f.text f.es e f.going
        (subst (λ p. IsTrue (is_some (s.refusal p e))) (sym f.history) ending))) g))

-- memory ran out over an event
pub followed_stopped : {E A X Y : Type 0} (s : Stream E A) (o : Outputs E X Y) (max_frames : ℕ)
    (old cur new : Ports X Y) (past : List E) (count : ℕ) (e : E)
    → SoFar s o max_frames old cur past count → IsNext s max_frames cur.left new.left past count e
    → s.refusal past e ≡ None → Adds o past e cur new true true
    → Followed s o max_frames old new OutOfMemory
followed_stopped s o max_frames old cur new past count e f n none adds =
    followed_after s o max_frames old cur new past count e OutOfMemory f n none
    (λ some. absurd (some refl)) (λ is. absurd cc) adds
    (free s max_frames (f.es ++ e ∷ []) OutOfMemory old.left refl)

-- the line of an event was put in part
pub followed_unput : {E A X Y : Type 0} (s : Stream E A) (o : Outputs E X Y) (max_frames : ℕ)
    (old cur new : Ports X Y) (past : List E) (count : ℕ) (e : E)
    → SoFar s o max_frames old cur past count → IsNext s max_frames cur.left new.left past count e
    → s.refusal past e ≡ None → Adds o past e cur new true false
    → Followed s o max_frames old new WriteFault
followed_unput s o max_frames old cur new past count e f n none adds =
    followed_after s o max_frames old cur new past count e WriteFault f n none refl
    (λ is. absurd cc) adds (free s max_frames (f.es ++ e ∷ []) WriteFault old.left refl)

-- a close
pub followed_closed : {E A X Y : Type 0} (s : Stream E A) (o : Outputs E X Y) (max_frames : ℕ)
    (old cur new : Ports X Y) (past : List E) (count : ℕ) (e : E) (r : End A)
    → SoFar s o max_frames old cur past count → IsNext s max_frames cur.left new.left past count e
    → s.refusal past e ≡ None → s.closes e ≡ true → AddsAll o past e cur new
    → r ≡ cond (s.synced (e ∷ past)) (Whole (count + 1)) NeverSynced
    → Followed s o max_frames old new r
followed_closed {E} s o max_frames old cur new past count e r f n none closed adds is =
    followed_after s o max_frames old cur new past count e r f n none
    (none_more s max_frames old.left (f.text ++ n.front) more (s.synced (e ∷ past)) (count + 1) r
    number is) (no_failure (s.synced (e ∷ past)) (count + 1) r is)
    (adds_all o past e cur new (cuts_line r) (cuts_steps r) adds)
    (known s max_frames more r old.left new.left (f.text ++ n.front)
    (Consumes-trans old.left cur.left new.left f.text n.front f.taken n.took) (λ ys same. record {
      rest = ys;
      reading = read_ended s o max_frames old cur new past count e ys f n ended;
      is = is ∙ ap (λ k. cond (s.synced (e ∷ past)) (Whole k) NeverSynced) number
          ∙ sym (end_closed s max_frames more ys (s.synced (e ∷ past))
          (refusal_of-more s [] f.text f.es e f.going
          ∙ subst (λ p. s.refusal p e ≡ None) (sym f.history) none)
          (closed_of-more s [] f.text f.es e f.going closed) (ap s.synced after));
    }))
  where
    more : List E
    more = f.es ++ e ∷ []

    ended : IsTrue (ends s past e)
    ended = rw (none, closed) refl

    after : onto [] more ≡ e ∷ past
    after = onto-more [] f.es e ∙ ap (λ p. e ∷ p) f.history

    number : count + 1 ≡ length more
    number = omega (arith, length-append f.es (e ∷ []), f.count_is)

pub goes_on : {E A X Y : Type 0} (s : Stream E A) (o : Outputs E X Y) (max_frames : ℕ)
    (old cur new : Ports X Y) (past : List E) (count : ℕ) (e : E)
    → SoFar s o max_frames old cur past count → IsNext s max_frames cur.left new.left past count e
    → s.refusal past e ≡ None → s.closes e ≡ false → AddsAll o past e cur new
    → SoFar s o max_frames old new (e ∷ past) (count + 1)
goes_on {E} s o max_frames old cur new past count e f n none going adds = record {
  es = f.es ++ e ∷ [];
  text = f.text ++ n.front;
  going = open_more s [] f.text f.es n.front e f.going
      (framed s past (onto [] f.es) n.front e f.history n.frame)
      (record { none = subst (λ p. s.refusal p e ≡ None) (sym f.history) none; going = going });
  history = onto-more [] f.es e ∙ ap (λ p. e ∷ p) f.history;
  count_is = length-append f.es (e ∷ []) ∙ ap (λ k. k + 1) f.count_is;
  bound = omega (arith, n.room);
  taken = Consumes-trans old.left cur.left new.left f.text n.front f.taken n.took;
  lines = all_added o.line old.held cur.held new.held f.lines adds.line;
  steps = all_added o.steps old.steps cur.steps new.steps f.steps adds.steps;
  records = all_added o.records old.records cur.records new.records f.records adds.records;
}
  where
    all_added : {Z : Type 0} (one : List E → E → List Z) (a b c : Option (List Z))
        → Grows a b (all_of s one [] f.es) → Grows b c (one past e)
        → Grows a c (all_of s one [] (f.es ++ e ∷ []))
    all_added one a b c so_far more =
        subst (Grows a c) (sym (more_of s one f.text f.es past e f.going f.history none))
        (grows_trans a b c (all_of s one [] f.es) (one past e) so_far more)
