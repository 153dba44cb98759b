-- What following the frames of a body hands on until it is cut short.
use Rattle.std.proofs.Common.{◌≡◌, ◌∙◌, ℕ, zero, suc, Bool, true, false, cond, List, [], ◌∷◌, ◌++◌}
use Rattle.std.proofs.Common.{length, take, Option, Some, None, Result, Ok, Err, inl, refl, sym, ap}
use Rattle.std.proofs.Common.{subst, arith, append_assoc, take_all}
use Rattle.std.proofs.lemmas.List.{append-nil}
use Rattle.std.specs.Prelude.{ℤ, ◌&&◌, ◌==◌, is_some}
use Rattle.std.specs.Io.KnownBytes.{Consumes}
use Rattle.spf_view.specs.Frames.{raw_text}
use Rattle.spf_view.specs.Sessions.{Stream, IsEvent, IsSession, End, Ports, Followed, all_of}
use Rattle.spf_view.specs.Sessions.{Grows, GrowsUpTo}
use Rattle.spf_view.specs.Sessions as sessions
use Rattle.spf_view.proofs.SessionLemmas.{IsOpen, frame_same}
use Rattle.spf_feed.specs.declared.follow_error.FollowError.{FollowError}
use Rattle.spf_feed.specs.declared.follow_error.FollowError.TheVariants as follow_errors
use Rattle.spf_feed.specs.declared.record.MetricsRecord.{MetricsRecord}
use Rattle.spf_feed.specs.declared.turn.Terminal.{Terminal}
use Rattle.spf_feed.specs.Items.{Event, Rules}
use Rattle.spf_feed.specs.Run.{stream, outputs, end_for}
use Rattle.spf_feed.specs.Steps.{PlainStep}
use Rattle.spf_proto.specs.declared.proto_error.ProtoError.TheVariants as errors
use Rattle.spf_proto.specs.FrameEnds.{end_by, result_of_end}
use Rattle.spf_proto.specs.Following.{OutputState, HandsOnBeginning, BodyFollowed, cuts_line}
use Rattle.spf_proto.specs.Following.{cuts_steps}
use Rattle.spf_proto.proofs.GivenLemmas.{held, known, rest_is}

-- ---- beginnings of lists

pub record Begins {X : Type 0} (all first : List X) : Type 0 where
  pub others : List X
  pub are : all ≡ first ++ others

no_frame_in : {E A : Type 0} (s : Stream E A) (past : List E) (text front rest more : List ℕ)
    (e : E) → IsEvent s past text front rest e → text ++ more ≡ [] → ⊥
no_frame_in s past text front rest more e event none =
    let some : (raw_text event.frame.kind event.frame.payload ++ rest) ++ more ≡ [] =
    ap (λ (l : List ℕ). (l ++ rest) ++ more) (sym event.frame.text)
    ∙ ap (λ (l : List ℕ). l ++ more) (sym event.text) ∙ none in
    absurd cc

-- of two sessions with which the same bytes begin, one of which is all of them, that is the longer
session_begins : {E A : Type 0} (s : Stream E A) (past : List E) (text bytes more : List ℕ)
    (first all : List E) → IsSession s past text first → IsOpen s past bytes all
    → text ++ more ≡ bytes → Begins all first
unfolding IsSession IsOpen
session_begins s past text bytes more [] all session going same =
    record { others = all; are = refl }
session_begins s past text bytes more (f ∷ first) [] session going same =
    absurd (no_frame_in s past text session.0 session.1 more f session.2 (same ∙ going))
session_begins s past text bytes more (f ∷ first) (e ∷ all) session going same =
    let joined : session.0 ++ (session.1 ++ more) ≡ going.0 ++ going.1 =
    sym (append_assoc session.0 session.1 more)
    ∙ ap (λ (l : List ℕ). l ++ more) (sym session.2.text) ∙ same ∙ going.2.text in
    let one = frame_same s past session.0 (session.1 ++ more) going.0 going.1 f e session.2.frame
    going.2.frame joined in
    let same_event = sym one.0 in
    let later = session_begins s (f ∷ past) session.1 going.1 more first all session.4
    (subst (λ x. IsOpen s (x ∷ past) going.1 all) same_event going.4) one.1 in
    record { others = later.others; are = λ i. same_event i ∷ later.are i }

either_begins : {X : Type 0} (b : Bool) (front all first : List X) → Begins all first
    → Begins (cond b [] (front ++ all)) (cond b [] (front ++ first))
either_begins true front all first begins = record { others = []; are = refl }
either_begins false front all first begins = record {
  others = begins.others;
  are = ap (λ l. front ++ l) begins.are ∙ sym (append_assoc front first begins.others);
}

-- what the first events give is a beginning of what all give
given_begins : {E A X : Type 0} (s : Stream E A) (one : List E → E → List X)
    (past first others : List E)
    → Begins (all_of s one past (first ++ others)) (all_of s one past first)
unfolding all_of
given_begins s one past [] others = record { others = all_of s one past others; are = refl }
given_begins s one past (e ∷ first) others =
    either_begins (is_some (s.refusal past e)) (one past e)
    (all_of s one (e ∷ past) (first ++ others)) (all_of s one (e ∷ past) first)
    (given_begins s one (e ∷ past) first others)

record Taken {X : Type 0} (front all : List X) : Type 0 where
  count : ℕ
  are : front ≡ take count all

taken : {X : Type 0} (n : ℕ) (first others : List X) → Taken (take n first) (first ++ others)
taken zero first others = record { count = 0; are = refl }
taken (suc n) [] others = record { count = 0; are = refl }
taken (suc n) (x ∷ first) others =
    let later = taken n first others in
    record { count = suc later.count; are = ap (λ l. x ∷ l) later.are }

-- what grows by a beginning of a beginning grows by a beginning
grows_shorter : {X : Type 0} (old new : Option (List X)) (all first : List X) (cut : Bool)
    → Begins all first → GrowsUpTo old new first cut → GrowsUpTo old new all true
grows_shorter {X} old new all first cut begins g =
    let t = taken g.count first begins.others in
    record {
      count = t.count;
      grows = subst (λ (l : List X). Grows old new l)
          (t.are ∙ ap (take t.count) (sym begins.are)) g.grows;
      all = λ whole. absurd cc;
    }

-- ---- a beginning of a session

-- as much of the lines of the whole session
pub lines_of : (rules : Rules) (es : List Event) (line_cut steps_cut : Bool) (old new : OutputState)
    → HandsOnBeginning rules es line_cut steps_cut old new
    → GrowsUpTo old.held new.held (all_of (stream rules) (outputs rules).line [] es) true
lines_of rules es line_cut steps_cut old new given =
    let s = stream rules in
    let line = (outputs rules).line in
    grows_shorter old.held new.held (all_of s line [] es) (all_of s line [] given.first) line_cut
    (subst (λ (l : List Event). Begins (all_of s line [] l) (all_of s line [] given.first))
    (sym given.session) (given_begins s line [] given.first given.others)) given.lines

-- all of it
pub all_lines : (old new : Option (List ℕ)) (more : List ℕ) → Grows old new more
    → GrowsUpTo old new more true
all_lines old new more grows = record {
  count = length more;
  grows = subst (λ (l : List ℕ). Grows old new l)
      (sym (take_all (length more) more (omega arith))) grows;
  all = λ whole. refl;
}

-- where nothing is cut, the same holds where something may be
pub may_be_cut : (rules : Rules) (es : List Event) (line_cut steps_cut : Bool)
    (old new : OutputState) → HandsOnBeginning rules es false false old new
    → HandsOnBeginning rules es line_cut steps_cut old new
may_be_cut rules es line_cut steps_cut old new given = record {
  first = given.first;
  others = given.others;
  session = given.session;
  lines = record {
    count = given.lines.count;
    grows = given.lines.grows;
    all = λ whole. given.lines.all refl;
  };
  steps = record {
    count = given.steps.count;
    grows = given.steps.grows;
    all = λ whole. given.steps.all refl;
  };
  records = record {
    count = given.records.count;
    grows = given.records.grows;
    all = λ whole. given.records.all refl;
  };
  order = given.order;
}

-- ---- nothing is handed on

not_last : (before : List Event) (last : Event) → [] ≡ before ++ last ∷ [] → ⊥
not_last [] last is = absurd cc
not_last (e ∷ before) last is = absurd cc

unmoved : {X : Type 0} (old : Option (List X)) → Grows old old []
unmoved None = tt
unmoved (Some l) = sym (append-nil l)

nothing_yet : (rules : Rules) (es : List Event) (old : OutputState)
    → HandsOnBeginning rules es true true old old
unfolding all_of
nothing_yet rules es old = record {
  first = [];
  others = es;
  session = refl;
  lines = record { count = 0; grows = unmoved old.held; all = λ whole. refl };
  steps = record { count = 0; grows = unmoved old.steps; all = λ whole. refl };
  records = record { count = 0; grows = unmoved old.records; all = λ whole. refl };
  order = λ before last is. absurd (not_last before last is);
}

-- memory ran out before anything was read
pub cut_at_start : (rules : Rules) (start : ℤ) (max : ℕ) (left : Option (List ℕ))
    (old : OutputState)
    → BodyFollowed rules start max left old old (Err (errors.Follow follow_errors.OutOfMemory))
cut_at_start rules start max None old = tt
cut_at_start rules start max (Some bytes) old =
    inl (record { free = refl; given = nothing_yet rules _ old })

-- ---- following the frames

-- where the result of the frames cuts no line, none is cut, and the same of steps
pub line_kept : (followed : Result ℕ FollowError)
    → cuts_line (result_of_end (end_by followed)) ≡ false
    → sessions.cuts_line (end_for followed) ≡ false
line_kept (Ok n) off = refl
line_kept (Err follow_errors.OutOfMemory) off = absurd cc
line_kept (Err follow_errors.ReadFault) off = refl
line_kept (Err follow_errors.WriteFault) off = absurd cc
line_kept (Err follow_errors.SessionTooLong) off = refl
line_kept (Err (follow_errors.BadFrame n)) off = refl
line_kept (Err (follow_errors.Source e)) off = refl
line_kept (Err (follow_errors.UnsupportedRpc e)) off = refl
line_kept (Err follow_errors.InitialSyncTimeout) off = refl
line_kept (Err follow_errors.Closed) off = refl
line_kept (Err follow_errors.NeverSynced) off = refl

pub steps_kept : (followed : Result ℕ FollowError)
    → cuts_steps (result_of_end (end_by followed)) ≡ false
    → sessions.cuts_steps (end_for followed) ≡ false
steps_kept (Ok n) off = refl
steps_kept (Err follow_errors.OutOfMemory) off = absurd cc
steps_kept (Err follow_errors.ReadFault) off = refl
steps_kept (Err follow_errors.WriteFault) off = refl
steps_kept (Err follow_errors.SessionTooLong) off = refl
steps_kept (Err (follow_errors.BadFrame n)) off = refl
steps_kept (Err (follow_errors.Source e)) off = refl
steps_kept (Err (follow_errors.UnsupportedRpc e)) off = refl
steps_kept (Err follow_errors.InitialSyncTimeout) off = refl
steps_kept (Err follow_errors.Closed) off = refl
steps_kept (Err follow_errors.NeverSynced) off = refl

-- however the frames of a session are followed, a beginning of what it gives is handed on
pub beginning_by : (rules : Rules) (max : ℕ) (bytes : List ℕ) (es : List Event)
    (old new : Ports PlainStep MetricsRecord) (r : End Terminal) (line_cut steps_cut : Bool)
    → IsOpen (stream rules) [] bytes es → old.left ≡ Some bytes
    → (line_cut ≡ false → sessions.cuts_line r ≡ false)
    → (steps_cut ≡ false → sessions.cuts_steps r ≡ false)
    → Followed (stream rules) (outputs rules) max old new r
    → HandsOnBeginning rules es line_cut steps_cut (held old) (held new)
beginning_by rules max bytes es old new r line_cut steps_cut going left line_off steps_off f =
    let consumed : Consumes (Some bytes) new.left (f.text ++ f.extra) =
    subst (λ (l : Option (List ℕ)). Consumes l new.left (f.text ++ f.extra)) left f.taken in
    let is = known bytes (f.text ++ f.extra) new.left consumed in
    let whole : f.text ++ (f.extra ++ is.0) ≡ bytes =
    sym (append_assoc f.text f.extra is.0)
    ∙ sym (rest_is bytes (f.text ++ f.extra) is.0 new.left consumed is.1) in
    let begins = session_begins (stream rules) [] f.text bytes (f.extra ++ is.0) f.es es f.session
    going whole in
    record {
      first = f.es;
      others = begins.others;
      session = begins.are;
      lines = record {
        count = f.lines.count;
        grows = f.lines.grows;
        all = λ off. f.lines.all
            (ap (λ (b : Bool). b && length f.extra == 0) (line_off off));
      };
      steps = record {
        count = f.steps.count;
        grows = f.steps.grows;
        all = λ off. f.steps.all
            (ap (λ (b : Bool). b && length f.extra == 0) (steps_off off));
      };
      records = record {
        count = f.records.count;
        grows = f.records.grows;
        all = λ off. f.records.all
            (ap (λ (b : Bool). b && length f.extra == 0) (steps_off off));
      };
      order = f.order;
    }
